-- What a look at a stream showed.
use Rattle.mj_links.specs.declared.tcp_link.Ahead.{Ahead}
use Rattle.mj_links.specs.declared.tcp_link.Ahead.TheVariants.{Unknown, End, Fault}

-- the end comes next, or a fault
abbrev pub IsStop : Ahead → Type 0
IsStop Unknown = ⊥
IsStop End = Unit {0}
IsStop Fault = Unit {0}
