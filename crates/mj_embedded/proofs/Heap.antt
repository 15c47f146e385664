-- `Global` and a boxed game as a call of a generic function takes them.
use Rattle.std.proofs.Common.{[], ◌∷◌, refl}
use mir.Syntax.{Dict, tcons, tnil, dnil, impl}
use mir.Raw.{raw as bare}
use denote.Exit.{no}
use denote.RattleType.{RattleType}
use denote.Param.{arg, layout}
use denote.Param.Laws.{Laws, arg_laws}
use Rattle.std.proofs.alloc.Calls.{Al}
use Rattle.std.specs.contracts.alloc.Global as heap
use Rattle.std.proofs.alloc.Global.TheLaws as heap_laws
use Rattle.std.specs.contracts.impls.GlobalAllocator.TheImpl.{ghosts, dict}
use Rattle.mj_stepped.specs.contracts.stepped.Stepped as stepped
use Rattle.mj_stepped.proofs.stepped.Stepped.TheLaws as stepped_laws

abbrev pub Heap : RattleType
Heap = arg (bare (layout heap.the_row)) no heap.the_row

abbrev pub heap_is : Laws Heap
heap_is = arg_laws (bare (layout heap.the_row)) no heap.the_row heap_laws.the_row_laws refl

abbrev pub Game : RattleType
Game = arg (bare (layout stepped.the_row)) no stepped.the_row

abbrev pub game_is : Laws Game
game_is = arg_laws (bare (layout stepped.the_row)) no stepped.the_row stepped_laws.the_row_laws refl

abbrev pub undropped : Dict
undropped = impl ("mj_embedded::Destruct++none::drop" ∷ []) (tcons (layout Heap) tnil) dnil

abbrev pub heap_al : Al
heap_al = record { row = Heap; laws = heap_is; g = ghosts; d = dict; drops = undropped }
