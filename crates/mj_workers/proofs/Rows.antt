-- Rows of new passes.
use Rattle.std.proofs.Common.{◌≡◌, ℕ, zero, suc, ◌<◌, List, [], ◌∷◌, length, map, refl, ap, ◌∙◌, arith}
use Rattle.std.specs.Prelude.{All, Some, slice_get, Vec, vec_len}
use Rattle.std.specs.declared.alloc.Global.{Global}
use Rattle.std.proofs.lemmas.List.{length-append, length-map}
use Rattle.std.proofs.lemmas.List.Elements.{All-nil, All-push}
use Rattle.std.proofs.lemmas.Option.{slice_get_within}
use Rattle.turn_lock.specs.Passes.{TurnState, PassState}
use Rattle.turn_lock.specs.Turns.{pass_from, passes_from}
use Rattle.mj_ticker.specs.Beside.{Matches}
use Rattle.mj_workers.specs.Staffs.{IsNewRow}
use Rattle.mj_ticker.proofs.Besides.{found, mapped, all_from}

module _ {T S N : Type 0} (turn : TurnState T) (fixed : S) (seen : List N) where
  -- passes of a turn that began with these notes: how many, none is busy, and each has seen them
  pub count_from : (count : ℕ) → length (passes_from {T = T} turn.id fixed seen count) ≡ count
  count_from zero = refl
  count_from (suc count) =
      let before : List (PassState T S N) = passes_from turn.id fixed seen count in
      let last : PassState T S N = pass_from turn.id fixed seen count in
      let rest = count_from count in
      omega (arith, length-append before (last ∷ []), rest)

  pub each_from : (P : PassState T S N → Type 0) (count : ℕ) → ((k : ℕ) → P (pass_from turn.id fixed seen k)) → All P (passes_from turn.id fixed seen count)
  each_from P zero f = All-nil P
  each_from P (suc count) f = All-push P (passes_from turn.id fixed seen count) (pass_from turn.id fixed seen count) (each_from P count f) (f count)

module _ {T S N : Type 0} (setting : T → S) (notes : T → List N) where
  -- rows of new passes have some
  pub some_new : (count : ℕ) (turns : List (TurnState T)) (rows : List (Vec (PassState T S N) Global)) →
      Matches (IsNewRow setting notes count) turns (map (λ (v : Vec (PassState T S N) Global). v.items) rows) → 0 < count → All (λ (v : Vec (PassState T S N) Global). 0 < vec_len v) rows
  some_new count turns rows m some = all_from (λ (v : Vec (PassState T S N) Global). 0 < vec_len v) rows (λ t v e. one t v e (slice_get_within rows t v e))
    where
      items : Vec (PassState T S N) Global → List (PassState T S N)
      items v = v.items

      one : (t : ℕ) (v : Vec (PassState T S N) Global) → slice_get rows t ≡ Some v → t < length rows → 0 < vec_len v
      one t v e near =
          let turn = found turns t (omega (arith, near, m.many, length-map rows items)) in
          let new = m.each t turn.0 v.items turn.1 (mapped items rows t v e) in
          let long : length v.items ≡ count = ap length new ∙ count_from turn.0 (setting turn.0.opening) (notes turn.0.opening) count in
          let len : v.len ≡ length v.items = v.ok.0 in
          omega (arith, some, long, len)
