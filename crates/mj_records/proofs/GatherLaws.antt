-- What was read of a list so far stands in front of what is read of the rest.
use Rattle.std.proofs.Common.{◌≡◌, ℕ, ◌+◌, ◌-◌, ◌<◌, ◌≤◌, List, [], ◌∷◌, ◌++◌, false, refl, ap, sym, ◌∙◌, arith, suc, append_assoc, inl, inr}
use Rattle.std.specs.Prelude.{Option, Some, None, ◌==◌, if◌then◌else◌, is_some, option_map, option_and_then, codes}
use Rattle.std.proofs.lemmas.Bool.{false≢true}
use Rattle.std.proofs.lemmas.Bool.Decides.{eqb_tells, nat_tests}
use Rattle.mj_bytes.specs.Parts.{behind}
use Rattle.mj_records.specs.Inner.Lists.{behind_item, items_from, marks_by, marks_from, marks_at}

-- these items, in front of the others
abbrev pub ahead : {A : Type 0} → List A → Option (List A × List ℕ) → Option (List A × List ℕ)
ahead xs more = option_map (λ m. (xs ++ m.0, m.1)) more

one_more : {A : Type 0} (xs : List A) (x : A) (more : Option (List A × List ℕ)) → ahead xs (option_map (λ m. (x ∷ m.0, m.1)) more) ≡ ahead (xs ++ x ∷ []) more
one_more xs x None = refl
one_more xs x (Some m) = ap (λ t. Some (t, m.1)) (sym (append_assoc xs (x ∷ []) m.0))

left : (n at : ℕ) → at < n → n - at ≡ suc (n - (at + 1))
left n at h = omega arith

-- what stands after a byte
text_of_some : Option (List ℕ) → List ℕ
text_of_some None = []
text_of_some (Some text) = text

behind_one : (b : ℕ) (text rest : List ℕ) → Some rest ≡ behind (b ∷ []) text → text ≡ b ∷ rest
unfolding text_of_some
behind_one b [] rest h = absurd (false≢true (ap is_some (sym h)))
behind_one b (c ∷ cs) rest h = elim (eqb_tells b c) [
  | inl p ↦ ap (λ t. t ∷ cs) (sym p.1) ∙ ap (λ o. b ∷ text_of_some o) (sym (h ∙ ap (λ t. if t then Some cs else None) p.0))
  | inr p ↦ absurd (false≢true (ap is_some (sym (h ∙ ap (λ t. if t then Some cs else None) p.0))))
]

-- what all is, where the next item is read
next_item : {A : Type 0} (item : List ℕ → Option (A × List ℕ)) (all : Option (List A × List ℕ)) (xs : List A) (n at : ℕ) (text : List ℕ)
    (r : Option (A × List ℕ)) → at < n → all ≡ ahead xs (items_from item (n - at) text) → item text ≡ r →
    all ≡ ahead xs (option_and_then (λ y. behind_item y.0 (items_from item (n - (at + 1))) y.1) r)
next_item item all xs n at text r small so h =
    so ∙ ap (λ m. ahead xs (items_from item m text)) (left n at small) ∙ ap (λ o. ahead xs (option_and_then (λ y. behind_item y.0 (items_from item (n - (at + 1))) y.1) o)) h

-- an item and a comma
pub list_goes_on : {A : Type 0} (item : List ℕ → Option (A × List ℕ)) (all : Option (List A × List ℕ)) (xs ys : List A) (x : A) (n at : ℕ)
    (text back rest : List ℕ) → at < n → all ≡ ahead xs (items_from item (n - at) text) → Some (x, back) ≡ item text → ys ≡ xs ++ x ∷ [] →
    Some rest ≡ behind (codes ",") back →
    all ≡ ahead ys (items_from item (n - (at + 1)) rest)
list_goes_on item all xs ys x n at text back rest small so h e comma =
    next_item item all xs n at text (Some (x, 44 ∷ rest)) small so (sym h ∙ ap (λ t. Some (x, t)) (behind_one 44 back rest comma)) ∙ one_more xs x (items_from item (n - (at + 1)) rest)
    ∙ ap (λ zs. ahead zs (items_from item (n - (at + 1)) rest)) (sym e)

-- an item and the bracket, or neither
ending : {A : Type 0} (xs : List A) (x : A) (others : List ℕ → Option (List A × List ℕ)) (back : List ℕ) → None ≡ behind (codes ",") back →
    ahead xs (behind_item x others back) ≡ option_map (λ rest. (xs ++ x ∷ [], rest)) (behind (codes "]") back)
ending xs x others [] h = refl
ending xs x others (b ∷ bs) h = elim (eqb_tells b 44) [
  | inl p ↦ absurd (false≢true (ap is_some (h ∙ ap (λ t. behind (codes ",") (t ∷ bs)) p.1)))
  | inr p ↦ elim (eqb_tells b 93) [
    | inl q ↦ rw q.1
    | inr q ↦ let r : (93 == b) ≡ false = grind (arith, nat_tests) in rw (p.0, q.0, r)
  ]
]

pub list_ends : {A : Type 0} (item : List ℕ → Option (A × List ℕ)) (all : Option (List A × List ℕ)) (xs : List A) (x : A) (n at : ℕ)
    (text back : List ℕ) → at < n → all ≡ ahead xs (items_from item (n - at) text) → Some (x, back) ≡ item text → None ≡ behind (codes ",") back →
    option_map (λ rest. (xs ++ x ∷ [], rest)) (behind (codes "]") back) ≡ all
list_ends item all xs x n at text back small so h comma =
    sym (next_item item all xs n at text (Some (x, back)) small so (sym h) ∙ ending xs x (items_from item (n - (at + 1))) back comma)

pub list_ends_here : {A : Type 0} (item : List ℕ → Option (A × List ℕ)) (all : Option (List A × List ℕ)) (xs ys : List A) (x : A) (n at : ℕ)
    (text back rest : List ℕ) → at < n → all ≡ ahead xs (items_from item (n - at) text) → Some (x, back) ≡ item text → ys ≡ xs ++ x ∷ [] →
    None ≡ behind (codes ",") back → Some rest ≡ behind (codes "]") back →
    Some (ys, rest) ≡ all
list_ends_here item all xs ys x n at text back rest small so h e comma bracket =
    ap (λ zs. Some (zs, rest)) e ∙ ap (option_map (λ others. (xs ++ x ∷ [], others))) bracket ∙ list_ends item all xs x n at text back small so h comma

pub list_stops : {A : Type 0} (item : List ℕ → Option (A × List ℕ)) (all : Option (List A × List ℕ)) (xs : List A) (x : A) (n at : ℕ)
    (text back : List ℕ) → at < n → all ≡ ahead xs (items_from item (n - at) text) → Some (x, back) ≡ item text → None ≡ behind (codes ",") back →
    None ≡ behind (codes "]") back →
    None ≡ all
list_stops item all xs x n at text back small so h comma bracket = ap (option_map (λ others. (xs ++ x ∷ [], others))) bracket ∙ list_ends item all xs x n at text back small so h comma

-- no item
pub list_lacks : {A : Type 0} (item : List ℕ → Option (A × List ℕ)) (all : Option (List A × List ℕ)) (xs : List A) (n at : ℕ) (text : List ℕ) →
    at < n → all ≡ ahead xs (items_from item (n - at) text) → None ≡ item text → None ≡ all
list_lacks item all xs n at text small so h = sym (next_item item all xs n at text None small so (sym h))

-- a question mark, and none
pub marks_begin : (text : List ℕ) → marks_at text ≡ marks_from (255 - 0) (0 + 1) text
unfolding marks_at
marks_begin text = refl

marks_left : (before : ℕ) → before < 255 → 255 - before ≡ suc (255 - (before + 1))
marks_left before h = omega arith

next_mark : (all : Option (ℕ × List ℕ)) (before : ℕ) (rest : List ℕ) → before < 255 → all ≡ marks_from (255 - before) (before + 1) rest →
    all ≡ marks_by (before + 1) (marks_from (255 - (before + 1)) (suc (before + 1))) (behind (codes "]") rest) (behind (codes ",\"?\"") rest)
next_mark all before rest small so = so ∙ ap (λ m. marks_from m (before + 1) rest) (marks_left before small)

pub marks_go_on : (all : Option (ℕ × List ℕ)) (before : ℕ) (rest more : List ℕ) → before < 255 → all ≡ marks_from (255 - before) (before + 1) rest →
    None ≡ behind (codes "]") rest → Some more ≡ behind (codes ",\"?\"") rest →
    all ≡ marks_from (255 - (before + 1)) (before + 1 + 1) more
marks_go_on all before rest more small so ends goes =
    let e : suc (before + 1) ≡ before + 1 + 1 = omega arith in
    next_mark all before rest small so
    ∙ ap (λ o. marks_by (before + 1) (marks_from (255 - (before + 1)) (suc (before + 1))) o (behind (codes ",\"?\"") rest)) (sym ends)
    ∙ ap (option_and_then (marks_from (255 - (before + 1)) (suc (before + 1)))) (sym goes)
    ∙ ap (λ m. marks_from (255 - (before + 1)) m more) e

pub marks_lack : (all : Option (ℕ × List ℕ)) (before : ℕ) (rest : List ℕ) → before < 255 → all ≡ marks_from (255 - before) (before + 1) rest →
    None ≡ behind (codes "]") rest → None ≡ behind (codes ",\"?\"") rest → None ≡ all
marks_lack all before rest small so ends lacks =
    sym (next_mark all before rest small so
    ∙ ap (λ o. marks_by (before + 1) (marks_from (255 - (before + 1)) (suc (before + 1))) o (behind (codes ",\"?\"") rest)) (sym ends)
    ∙ ap (option_and_then (marks_from (255 - (before + 1)) (suc (before + 1)))) (sym lacks))

pub marks_end : (all : Option (ℕ × List ℕ)) (before : ℕ) (rest back : List ℕ) → before < 255 → all ≡ marks_from (255 - before) (before + 1) rest →
    Some back ≡ behind (codes "]") rest → Some (before + 1, back) ≡ all
marks_end all before rest back small so ends =
    sym (next_mark all before rest small so ∙ ap (λ o. marks_by (before + 1) (marks_from (255 - (before + 1)) (suc (before + 1))) o (behind (codes ",\"?\"") rest)) (sym ends))

pub marks_are_out : (all : Option (ℕ × List ℕ)) (before : ℕ) (rest : List ℕ) → 255 ≤ before → all ≡ marks_from (255 - before) (before + 1) rest → None ≡ all
marks_are_out all before rest out so = let e : 255 - before ≡ 0 = omega arith in sym (so ∙ ap (λ m. marks_from m (before + 1) rest) e)
