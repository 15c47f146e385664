-- A text that is parted at the first place of a byte.
use Rattle.std.proofs.Common.{◌≡◌, ℕ, zero, suc, ◌+◌, ◌<◌, List, [], ◌∷◌, ◌++◌, length, Bool, true, false, refl, ap, subst, ◌∙◌, arith, cond, take, drop, get_or}
use Rattle.std.proofs.lemmas.List.{take_more}
use Rattle.std.proofs.Math.Seq.{split_at, take-length}
use Rattle.std.proofs.lemmas.Bool.{eqb-true}
use Rattle.std.proofs.Common.{add-one}
use Rattle.std.specs.Prelude.{◌==◌}
use Rattle.std.proofs.lemmas.Grind.{common_steps}
use Rattle.std.specs.Prelude.{Option, Some, None}
use Rattle.std.specs.Prelude.{bytes_eq, ◌&&◌, if◌then◌else◌}
use Rattle.std.proofs.lemmas.Bool.Decides.{nat_tests}
use Rattle.memchr.specs.Find.{Nowhere, NoneBefore, Passes, is_byte}
use Rattle.mj_bytes.specs.Parts.{has_byte, onto_first, parts_by, all_but_last, last_of, whole_lines, unfinished, PartsAtFirst, BeginsWithPart, IsOnePart, BeginsWithLine, HasNoLine, parted, behind}

neither : (t v : Bool) → cond t true v ≡ false → (t ≡ false) × (v ≡ false)
neither true v h = (h, cc)
neither false v h = (refl, h)

-- the byte is neither the first of a list without it nor among the rest
pub has_byte-head : (c b : ℕ) (bs : List ℕ) → has_byte c (b ∷ bs) ≡ false → ((b == c) ≡ false) × (has_byte c bs ≡ false)
has_byte-head c b bs h = neither (b == c) (has_byte c bs) h

pub has_byte-last : (c b : ℕ) (bs : List ℕ) → has_byte c bs ≡ false → (b == c) ≡ false → has_byte c (bs ++ b ∷ []) ≡ false
has_byte-last c b [] h e = rw e
has_byte-last c b (d ∷ bs) h e = let k = has_byte-head c d bs h in rw (k.0, has_byte-last c b bs k.1 e)

same : (c : ℕ) → (c == c) ≡ true
same c = grind arith

pub has_byte-at : (c : ℕ) (line rest : List ℕ) → has_byte c (line ++ c ∷ rest) ≡ true
has_byte-at c [] rest = rw (same c)
has_byte-at c (b ∷ bs) rest = rw (has_byte-at c bs rest) (either (b == c))
  where
    either : (t : Bool) → cond t true true ≡ true
    either true = refl
    either false = refl

pub parts_by-at : (c : ℕ) (first rest : List ℕ) → has_byte c first ≡ false → parts_by c (first ++ c ∷ rest) ≡ first ∷ parts_by c rest
parts_by-at c [] rest h = rw (same c) refl
parts_by-at c (b ∷ bs) rest h = let k = has_byte-head c b bs h in rw (k.0, parts_by-at c bs rest k.1)

pub parts_by-none : (c : ℕ) (text : List ℕ) → has_byte c text ≡ false → parts_by c text ≡ text ∷ []
parts_by-none c [] h = refl
parts_by-none c (b ∷ bs) h = let k = has_byte-head c b bs h in rw (k.0, parts_by-none c bs k.1)

-- each text has a part
some_part : (c : ℕ) (text : List ℕ) → (first : List ℕ) × ((others : List (List ℕ)) × (parts_by c text ≡ first ∷ others))
some_part c [] = ([], ([], refl))
some_part c (b ∷ bs) = either (b == c) (some_part c bs)
  where
    either : (t : Bool) → (first : List ℕ) × ((others : List (List ℕ)) × (parts_by c bs ≡ first ∷ others))
        → (first : List ℕ) × ((others : List (List ℕ)) × (cond t ([] ∷ parts_by c bs) (onto_first b (parts_by c bs)) ≡ first ∷ others))
    either true p = ([], (parts_by c bs, refl))
    either false p = (b ∷ p.0, (p.1.0, ap (onto_first b) p.1.1))

-- a part before those of a text is neither the last nor left out
last-more : (text : List ℕ) (texts : List (List ℕ)) (first : List ℕ) (others : List (List ℕ)) → texts ≡ first ∷ others → last_of (text ∷ texts) ≡ last_of texts
last-more text [] first others h = cc h
last-more text (other ∷ rest) first others h = refl

but_last-more : (text : List ℕ) (texts : List (List ℕ)) (first : List ℕ) (others : List (List ℕ)) → texts ≡ first ∷ others → all_but_last (text ∷ texts) ≡ text ∷ all_but_last texts
but_last-more text [] first others h = cc h
but_last-more text (other ∷ rest) first others h = refl

pub whole_lines-at : (line rest : List ℕ) → has_byte 10 line ≡ false → whole_lines (line ++ 10 ∷ rest) ≡ line ∷ whole_lines rest
whole_lines-at line rest h = let p = some_part 10 rest in ap all_but_last (parts_by-at 10 line rest h) ∙ but_last-more line (parts_by 10 rest) p.0 p.1.0 p.1.1

pub whole_lines-none : (text : List ℕ) → has_byte 10 text ≡ false → whole_lines text ≡ []
whole_lines-none text h = ap all_but_last (parts_by-none 10 text h)

pub unfinished-at : (line rest : List ℕ) → has_byte 10 line ≡ false → unfinished (line ++ 10 ∷ rest) ≡ unfinished rest
unfinished-at line rest h = let p = some_part 10 rest in ap last_of (parts_by-at 10 line rest h) ∙ last-more line (parts_by 10 rest) p.0 p.1.0 p.1.1

pub unfinished-none : (text : List ℕ) → has_byte 10 text ≡ false → unfinished text ≡ text
unfinished-none text h = ap last_of (parts_by-none 10 text h)

shorter : (c : ℕ) (text first rest : List ℕ) → text ≡ first ++ c ∷ rest → length rest < length text
shorter c text first rest e = grind (arith, common_steps, ap length e)

pub begins_with_line : (text line rest : List ℕ) → PartsAtFirst 10 text line rest → BeginsWithLine text line rest
begins_with_line text line rest p = record {
  parts = p.parts;
  plain = p.plain;
  lines = ap whole_lines p.parts ∙ whole_lines-at line rest p.plain;
  ending = ap unfinished p.parts ∙ unfinished-at line rest p.plain;
  shorter = shorter 10 text line rest p.parts;
}

pub has_no_line : (text : List ℕ) → has_byte 10 text ≡ false → HasNoLine text
has_no_line text h = record { plain = h; lines = whole_lines-none text h; ending = unfinished-none text h }

pub begins_with_part : (c : ℕ) (text first rest : List ℕ) → PartsAtFirst c text first rest → BeginsWithPart c text first rest
begins_with_part c text first rest p = record {
  parts = p.parts;
  plain = p.plain;
  all = ap (parts_by c) p.parts ∙ parts_by-at c first rest p.plain;
  shorter = shorter c text first rest p.parts;
}

pub is_one_part : (c : ℕ) (text : List ℕ) → has_byte c text ≡ false → IsOnePart c text
is_one_part c text h = record { plain = h; all = parts_by-none c text h }

-- a search for a byte that goes on, and one that ends
pub has_byte-step : (c : ℕ) (text : List ℕ) (at : ℕ) → at < length text → has_byte c (take at text) ≡ false → (get_or text at 0 == c) ≡ false → has_byte c (take (at + 1) text) ≡ false
has_byte-step c text at h before this = rw (take_more text at 0 h) (has_byte-last c (get_or text at 0) (take at text) before this)

pub parts_at : (c : ℕ) (text : List ℕ) (at : ℕ) → at < length text → has_byte c (take at text) ≡ false → get_or text at 0 ≡ c → PartsAtFirst c text (take at text) (drop (at + 1) text)
parts_at c text at h before this =
    let cut : text ≡ take at text ++ c ∷ drop (at + 1) text = rw (add-one, ← this) (split_at text at 0 h) in
    record { parts = cut; plain = before }

pub ruleset search_steps = (has_byte-step, parts_at)

-- a search for a byte whose answer is its first place
is_no : (t : Bool) → (t ≡ true → ⊥) → t ≡ false
is_no true h = absurd (h refl)
is_no false h = refl

none_before : (c : ℕ) (text : List ℕ) (at : ℕ) → ((k : ℕ) → k < at → k < length text → (get_or text k 0 == c) ≡ true → ⊥) → has_byte c (take at text) ≡ false
none_before c text zero h = refl
none_before c [] (suc at) h = refl
none_before c (b ∷ bs) (suc at) h = rw (is_no (b == c) (h 0 (omega arith) (omega arith)), none_before c bs at (λ k l m e. h (suc k) (omega (arith, l)) (omega (arith, m)) e)) refl

pub found_first : (c : ℕ) (text : List ℕ) (at : ℕ) → NoneBefore (Passes (is_byte c) text) 0 (length text) at × Passes (is_byte c) text at → PartsAtFirst c text (take at text) (drop (at + 1) text)
found_first c text at h =
    parts_at c text at h.0.high (none_before c text at (λ k l m e. h.0.before k (omega arith) l e)) (eqb-true (get_or text at 0) c h.1)

pub found_nowhere : (c : ℕ) (text : List ℕ) → Nowhere (Passes (is_byte c) text) 0 (length text) → has_byte c text ≡ false
found_nowhere c text h = subst (λ (xs : List ℕ). has_byte c xs ≡ false) (take-length text) (none_before c text (length text) (λ k l m e. h k (omega arith) l e))

pub ruleset searches = (found_first, found_nowhere)

-- the parts round the first space
parted-at : (first rest : List ℕ) → has_byte 32 first ≡ false → parted (first ++ 32 ∷ rest) ≡ Some (first, rest)
parted-at [] rest h = refl
parted-at (b ∷ bs) rest h = let k = has_byte-head 32 b bs h in rw (k.0, parted-at bs rest k.1)

pub parted-some : (text first rest : List ℕ) → PartsAtFirst 32 text first rest → Some (first, rest) ≡ parted text
parted-some text first rest p = rw (p.parts, parted-at first rest p.plain)

pub parted-none : (text : List ℕ) → has_byte 32 text ≡ false → None ≡ parted text
parted-none [] h = refl
parted-none (b ∷ bs) h = let k = has_byte-head 32 b bs h in rw (k.0, ← parted-none bs k.1)

-- a text that begins so, and one that doesn't
turned : (a b : ℕ) → (a == b) ≡ (b == a)
turned a b = grind (arith, nat_tests)

step-some : (s t : Bool) (v : List ℕ) (o : Option (List ℕ)) → (s && t) ≡ true → (t ≡ true → Some v ≡ o) → Some v ≡ (if s then o else None)
step-some true t v o h f = f h
step-some false t v o h f = cc

step-none : (s t : Bool) (o : Option (List ℕ)) → (s && t) ≡ false → (t ≡ false → None ≡ o) → None ≡ (if s then o else None)
step-none true t o h f = f h
step-none false t o h f = refl

pub behind-some : (ps bs : List ℕ) → bytes_eq (take (length ps) bs) ps ≡ true → Some (drop (length ps) bs) ≡ behind ps bs
behind-some [] bs h = refl
behind-some (p ∷ ps) [] h = cc h
behind-some (p ∷ ps) (b ∷ bs) h = rw (turned p b) (step-some (b == p) (bytes_eq (take (length ps) bs) ps) (drop (length ps) bs) (behind ps bs) h (behind-some ps bs))

pub behind-none : (ps bs : List ℕ) → bytes_eq (take (length ps) bs) ps ≡ false → None ≡ behind ps bs
behind-none [] bs h = cc h
behind-none (p ∷ ps) [] h = refl
behind-none (p ∷ ps) (b ∷ bs) h = rw (turned p b) (step-none (b == p) (bytes_eq (take (length ps) bs) ps) (behind ps bs) h (behind-none ps bs))

pub ruleset space_splits = (begins_with_part, is_one_part, parted-some, parted-none)

pub ruleset strips = (behind-some, behind-none)
