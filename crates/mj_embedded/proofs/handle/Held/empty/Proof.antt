-- `empty` makes a pointer that holds nothing: a walk of its MIR.
use Rattle.std.proofs.Common.{◌≡◌, [], ◌∷◌, refl, lit<}
use Rattle.std.specs.Prelude.{None}
use base.Logic.{emp}
use base.Fml.{ftrue}
use contract.Monad.{fact, fact_i}
use types.Kit.{‵, raw, ◌$◌, ◌∵◌, !, qed, by, drop, use0}
use types.Run.{lit, no_more, and_then, returns, enter}
use types.ByLocal.{alloc_all, pass_all, free_all, look_at, sets}
use types.Part.{agg}
use denote.RawPtr.{null_ptr}
use denote.Steps.{nothing}
use denote.Triple.Entry.{on_entry}
use Rattle.std.proofs.raw_atomic.Walks.{proved, leaves}
use Rattle.mj_embedded.proofs.Values.{word, held_in}
use Rattle.mj_embedded.specs.contracts.handle.Held.{the_row}
use Rattle.mj_embedded.specs.contracts.handle.Held.empty as f
use Rattle.mj_embedded.proofs.handle.Held.empty.Statement.{statement}
use Rattle.mj_embedded.proofs.handle.Held.empty.Code as code

pub empty_spec : {M : Type 1} → statement M
empty_spec 𝓤 𝓛 𝓜 𝓡 wired =
    let c = f.clauses 𝓛 𝓜.mem 𝓡.returns in let none : the_row.Denot = record { at = null_ptr; game = None } in
    proved 𝓛 f.ended tt c 𝓜 𝓡 tt f.Key.name code.function (code.unfolded 𝓤 𝓛.H 𝓜 𝓡 wired) (λ κs. tt) (λ κs. tt) (λ κs qs bounds a g are.
    qed 𝓛 (raw (on_entry 𝓛 f.signature κs qs a tt) ∷ ‵ ftrue ∷ []) ∵ drop ! $ drop ! $ enter ! _ _ _ _ _ $ alloc_all ! (λ l. pass_all ! refl tt $
    sets ! (agg ! (and_then ! (lit ! tt) (no_more !))) refl (tt, (record { fits = lit< tt }, tt)) $ returns ! (look_at ! 0 refl) $ free_all ! refl $
    use0 𝓛 (raw (fact 𝓤 (none.game ≡ None))) (fact_i 𝓤 (none.game ≡ None) (emp 𝓤) refl) $ nothing ! $ held_in ! null_ptr None $ nothing ! $ nothing ! $
    by ! (leaves 𝓛 f.ended tt c ((κs, qs, bounds, a, tt), g) (word null_ptr) none tt tt)))
