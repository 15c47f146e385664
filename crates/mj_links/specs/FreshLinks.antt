-- Links in memory that nobody used yet.
use Rattle.std.specs.Prelude.{Some}
use Rattle.mj_links.specs.declared.mem_link.MemLink.{MemLink}
use Rattle.mj_links.specs.Hosts.{IsFresh}
use Rattle.mj_links.specs.MemLinks.{link_gone, link_written, link_read_faults, link_write_faults}

-- nothing was read from the link and nothing is written on it, and it met no fault
abbrev pub IsFreshLink : MemLink → Type 0
IsFreshLink l = IsFresh (Some (link_gone l)) (Some (link_written l)) (link_read_faults l) (link_write_faults l)
