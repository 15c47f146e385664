use Rattle.std.proofs.Common.{◌≡◌, ℕ, ◌+◌, ◌<◌, List, ◌∷◌, ◌++◌, ap, sym, subst, lit<}
use Rattle.std.specs.Prelude.{codes, decimal, OnOk}
use Rattle.std.proofs.lemmas.Fmt.{decimal_digit}
use Rattle.mj_bytes.specs.Adds.{Adds}
use Rattle.mjai_lines.proofs.Chains.{◌▸◌, as_piece}
use Rattle.mjai_lines.proofs.deed.push_discard_front.Goals as goal

-- The text of a seat of one digit.
front : (seat : ℕ) → seat < 10 → codes "{\"type\":\"dahai\",\"actor\":" ++ (48 + seat) ∷ codes ",\"pai\":" ≡ codes "{\"type\":\"dahai\",\"actor\":" ++ decimal seat ++ codes ",\"pai\":"
front seat h = sym (ap (λ (digits : List ℕ). codes "{\"type\":\"dahai\",\"actor\":" ++ (digits ++ codes ",\"pai\":")) (decimal_digit seat h))

pub returns-in-0 : goal.returns-in-0
returns-in-0 c = rw c.in-0.is (subst (λ (p : List ℕ). OnOk c.push_all.result (Adds c.args.line.now.items c.push_all.new.into.items p)) (front 0 (lit< tt)) c.push_all.ensures.ok)

pub returns-in-1 : goal.returns-in-1
returns-in-1 c = rw c.in-1.is (subst (λ (p : List ℕ). OnOk c.push_all-in-1.result (Adds c.args.line.now.items c.push_all-in-1.new.into.items p)) (front 1 (lit< tt)) c.push_all-in-1.ensures.ok)

pub returns-in-2 : goal.returns-in-2
returns-in-2 c = rw c.in-2.is (subst (λ (p : List ℕ). OnOk c.push_all-in-2.result (Adds c.args.line.now.items c.push_all-in-2.new.into.items p)) (front 2 (lit< tt)) c.push_all-in-2.ensures.ok)

pub returns-in-3 : goal.returns-in-3
returns-in-3 c = rw c.in-3.is (subst (λ (p : List ℕ). OnOk c.push_all-in-3.result (Adds c.args.line.now.items c.push_all-in-3.new.into.items p)) (front 3 (lit< tt)) c.push_all-in-3.ensures.ok)

pub returns-in_ok-push_all-in_default-2 : goal.returns-in_ok-push_all-in_default-2
returns-in_ok-push_all-in_default-2 c =
    c.in_ok-push_all-in_default.ensures.ok
    ▸ as_piece (ap decimal c.from.ensures) c.in_ok-push_number-in_default.ensures.ok
    ▸ c.in_ok-push_all-in_default-2.ensures.ok
