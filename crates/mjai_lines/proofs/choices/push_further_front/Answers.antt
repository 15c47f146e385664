use Rattle.std.proofs.Common.{◌≡◌, ℕ, ◌+◌, ◌<◌, List, ◌∷◌, ◌++◌, ap, sym, subst, lit<}
use Rattle.std.specs.Prelude.{codes, OnOk}
use Rattle.std.proofs.lemmas.Fmt.{decimal_digit}
use Rattle.mj_bytes.specs.Adds.{Adds}
use Rattle.mj_forms.specs.Choices.{type_field, actor_field}
use Rattle.mjai_lines.proofs.choices.push_further_front.Goals as goal

-- The text of a comma and a discard as far as its tile, of a seat of one digit.
front : (actor : ℕ) → actor < 10 →
    codes ",{\"type\":\"dahai\",\"actor\":" ++ (48 + actor) ∷ codes ",\"pai\":" ≡ 44 ∷ type_field (codes "dahai") ++ actor_field actor ++ codes ",\"pai\":"
unfolding type_field actor_field
front actor h = sym (ap (λ (digits : List ℕ). codes ",{\"type\":\"dahai\",\"actor\":" ++ (digits ++ codes ",\"pai\":")) (decimal_digit actor h))

pub returns-in-0 : goal.returns-in-0
returns-in-0 c = rw c.in-0.is (subst (λ (p : List ℕ). OnOk c.push_all.result (Adds c.args.line.now.items c.push_all.new.into.items p)) (front 0 (lit< tt)) c.push_all.ensures.ok)

pub returns-in-1 : goal.returns-in-1
returns-in-1 c = rw c.in-1.is (subst (λ (p : List ℕ). OnOk c.push_all-in-1.result (Adds c.args.line.now.items c.push_all-in-1.new.into.items p)) (front 1 (lit< tt)) c.push_all-in-1.ensures.ok)

pub returns-in-2 : goal.returns-in-2
returns-in-2 c = rw c.in-2.is (subst (λ (p : List ℕ). OnOk c.push_all-in-2.result (Adds c.args.line.now.items c.push_all-in-2.new.into.items p)) (front 2 (lit< tt)) c.push_all-in-2.ensures.ok)

pub returns-in-3 : goal.returns-in-3
returns-in-3 c = rw c.in-3.is (subst (λ (p : List ℕ). OnOk c.push_all-in-3.result (Adds c.args.line.now.items c.push_all-in-3.new.into.items p)) (front 3 (lit< tt)) c.push_all-in-3.ensures.ok)
