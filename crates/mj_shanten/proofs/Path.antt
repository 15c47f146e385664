-- The path of exchanges: each surplus tile for a missing one.
use Rattle.std.proofs.Common.{ℕ, ◌≡◌, ◌≢◌, ◌<◌, ◌≤◌, ◌+◌, ◌-◌, ◌++◌, ◌∷◌, [], cond, eqb, List, length, get_or, sum, replicate, refl, sym, ◌∙◌, ap, ap₂, subst, arith, zero, suc, ◌⊎◌, inl, inr}
use Rattle.std.specs.List.{count_by, flat_map, range_with_len, zip}
use Rattle.std.proofs.lemmas.Bool.{cases_eq, cases_lt, eq-eqb, ne_eqb}
use Rattle.std.proofs.lemmas.List.{ext_get_or, get_or-set_same, get_or-set_other, length-set, length-append, length-replicate, append_assoc, append-nil}
use Rattle.std.proofs.lemmas.List.Sums.{sum_by-cons, sum_by-append}
use Rattle.mj_tiles.specs.Counts.{all_kinds}
use Rattle.mj_readings.specs.Tests.{one_more}
use Rattle.mj_readings.specs.Complete.{IsComplete}
use Rattle.mj_suits.specs.Targets.{missing}
use Rattle.mj_shanten.specs.Room.{IsHand, IsWithinRoom}
use Rattle.mj_shanten.specs.Shanten.{IsShanten}
use Rattle.mj_shanten.specs.Exchanges.{one_less, exchanged, MayExchange, IsReady, kinds_over, path_to, LeadsToReady}
use Rattle.mj_shanten.proofs.Sums.{sum-cons, sum_complete}

-- how often a kind stands in a list of kinds
abbrev pub often : ℕ → List ℕ → ℕ
often kind kinds = count_by (λ k. eqb k kind) kinds

often-cons : (kind k : ℕ) (ks : List ℕ) → often kind (k ∷ ks) ≡ cond (eqb k kind) 1 0 + often kind ks
often-cons kind k ks = sum_by-cons (λ k. cond (eqb k kind) 1 0) k ks

often-append : (kind : ℕ) (ks js : List ℕ) → often kind (ks ++ js) ≡ often kind ks + often kind js
often-append kind ks js = sum_by-append (λ k. cond (eqb k kind) 1 0) ks js

often-same : (kind n : ℕ) → often kind (replicate n kind) ≡ n
often-same kind zero = refl
often-same kind (suc n) = often-cons kind kind (replicate n kind) ∙ ap₂ (λ b m. cond b 1 0 + m) (eq-eqb kind kind refl) (often-same kind n) ∙ (let e : 1 + n ≡ suc n = omega arith in e)

often-other : (kind other n : ℕ) → other ≢ kind → often kind (replicate n other) ≡ 0
often-other kind other zero apart = refl
often-other kind other (suc n) apart = often-cons kind other (replicate n other) ∙ ap₂ (λ b m. cond b 1 0 + m) (ne_eqb other kind apart) (often-other kind other n apart)

-- ---- the kinds of which there are more

abbrev pub row : (ℕ → ℕ) → ℕ → ℕ → List ℕ
row f from n = flat_map (λ k. replicate (f k) k) (range_with_len from n)

row_out : (f : ℕ → ℕ) (from n kind : ℕ) → (kind < from) ⊎ (from + n ≤ kind) → often kind (row f from n) ≡ 0
row_out f from zero kind out = refl
row_out f from (suc n) kind out =
    let apart : from ≢ kind = (λ e. outside e out) in
    often-append kind (replicate (f from) from) (row f (from + 1) n) ∙ ap₂ (λ a b. a + b) (often-other kind from (f from) apart) (row_out f (from + 1) n kind (further out))
  where
    outside : from ≡ kind → (kind < from) ⊎ (from + suc n ≤ kind) → ⊥
    outside e (inl a) = omega arith
    outside e (inr a) = omega arith

    further : (kind < from) ⊎ (from + suc n ≤ kind) → (kind < from + 1) ⊎ (from + 1 + n ≤ kind)
    further (inl a) = inl (omega arith)
    further (inr a) = inr (omega arith)

row_in : (f : ℕ → ℕ) (from n kind : ℕ) → from ≤ kind → kind < from + n → often kind (row f from n) ≡ f kind
row_in f from zero kind low high = absurd (omega arith)
row_in f from (suc n) kind low high =
    let whole : often kind (row f from (suc n)) ≡ often kind (replicate (f from) from) + often kind (row f (from + 1) n) = often-append kind (replicate (f from) from) (row f (from + 1) n) in
    elim (cases_eq from kind) [
      | inl same ↦ (let a : often kind (replicate (f from) from) ≡ f kind = ap (λ k. often kind (replicate (f k) k)) same ∙ often-same kind (f kind) in
          let b : often kind (row f (from + 1) n) ≡ 0 = row_out f (from + 1) n kind (inl (omega arith)) in omega arith)
      | inr apart ↦ (let a : often kind (replicate (f from) from) ≡ 0 = often-other kind from (f from) apart in
          let b : often kind (row f (from + 1) n) ≡ f kind = row_in f (from + 1) n kind (omega arith) (omega arith) in omega arith)
    ]

pub over_at : (counts others : List ℕ) (kind : ℕ) → kind < 34 → often kind (kinds_over counts others) ≡ get_or counts kind 0 - get_or others kind 0
unfolding kinds_over all_kinds
over_at counts others kind low = row_in (λ k. get_or counts k 0 - get_or others k 0) 0 34 kind (omega arith) low

-- each of them is one of the 34
abbrev AllLow : List ℕ → Type 0
AllLow [] = Unit {0}
AllLow (k ∷ ks) = (k < 34) × AllLow ks

low-append : (ks js : List ℕ) → AllLow ks → AllLow js → AllLow (ks ++ js)
low-append [] js a b = b
low-append (k ∷ ks) js a b = (a.0, low-append ks js a.1 b)

low-replicate : (n k : ℕ) → k < 34 → AllLow (replicate n k)
low-replicate zero k small = tt
low-replicate (suc n) k small = (small, low-replicate n k small)

row_low : (f : ℕ → ℕ) (from n : ℕ) → from + n ≤ 34 → AllLow (row f from n)
row_low f from zero far = tt
row_low f from (suc n) far = low-append (replicate (f from) from) (row f (from + 1) n) (low-replicate (f from) from (omega arith)) (row_low f (from + 1) n (omega arith))

pub over_low : (counts others : List ℕ) → AllLow (kinds_over counts others)
unfolding kinds_over all_kinds
over_low counts others = row_low (λ k. get_or counts k 0 - get_or others k 0) 0 34 (omega arith)

row_length : (f : ℕ → ℕ) (from : ℕ) (xs ys : List ℕ) → length xs ≡ length ys → ((k : ℕ) → k < length xs → f (from + k) ≡ get_or xs k 0 - get_or ys k 0)
    → length (row f from (length xs)) ≡ missing xs ys
row_length f from [] ys same each = refl
row_length f from (x ∷ xs) [] same each = absurd (omega arith)
row_length f from (x ∷ xs) (y ∷ ys) same each =
    let here : f from ≡ x - y = (let e : from + 0 ≡ from = omega arith in ap f (sym e) ∙ each 0 (omega arith)) in
    let rest : length (row f (from + 1) (length xs)) ≡ missing xs ys =
    row_length f (from + 1) xs ys (omega arith) (λ k inside. (let e : from + 1 + k ≡ from + suc k = omega arith in ap f e ∙ each (suc k) (omega arith))) in
    length-append (replicate (f from) from) (row f (from + 1) (length xs)) ∙ ap₂ (λ a b. a + b) (length-replicate (f from) from ∙ here) rest

pub over_length : (counts others : List ℕ) → length counts ≡ 34 → length others ≡ 34 → length (kinds_over counts others) ≡ missing counts others
unfolding kinds_over all_kinds
over_length counts others a b =
    ap (λ n. length (row (λ k. get_or counts k 0 - get_or others k 0) 0 n)) (sym a)
    ∙ row_length (λ k. get_or counts k 0 - get_or others k 0) 0 counts others (a ∙ sym b) (λ k inside. (let e : 0 + k ≡ k = omega arith in ap (λ j. get_or counts j 0 - get_or others j 0) e))

-- what one has more and the other has more
balance : (xs ys : List ℕ) → length xs ≡ length ys → sum xs + missing ys xs ≡ sum ys + missing xs ys
balance [] [] same = refl
balance [] (y ∷ ys) same = absurd (omega arith)
balance (x ∷ xs) [] same = absurd (omega arith)
balance (x ∷ xs) (y ∷ ys) same = (let a = sum-cons x xs in let b = sum-cons y ys in let c = balance xs ys (omega arith) in omega arith)

-- ---- one exchange

pub exchanged_size : (counts : List ℕ) (out put : ℕ) → length (exchanged counts (out, put)) ≡ length counts
exchanged_size counts out put = length-set (one_less counts out) put _ ∙ length-set counts out _

pub one_less_at : (counts : List ℕ) (out k : ℕ) → out < length counts → get_or (one_less counts out) k 0 ≡ get_or counts k 0 - cond (eqb out k) 1 0
one_less_at counts out k inside = elim (cases_eq k out) [
  | inl same ↦ ap (λ j. get_or (one_less counts out) j 0) same ∙ get_or-set_same counts out _ 0 inside ∙ sym (ap₂ (λ j b. get_or counts j 0 - cond b 1 0) same (eq-eqb out k (sym same)))
  | inr apart ↦ (let other : out ≢ k = (λ e. apart (sym e)) in let e : get_or counts k 0 - 0 ≡ get_or counts k 0 = omega arith in
      get_or-set_other counts out k _ 0 apart ∙ sym (ap (λ b. get_or counts k 0 - cond b 1 0) (ne_eqb out k other) ∙ e))
]

pub one_more_at : (counts : List ℕ) (put k : ℕ) → put < length counts → get_or (one_more counts put) k 0 ≡ get_or counts k 0 + cond (eqb put k) 1 0
one_more_at counts put k inside = elim (cases_eq k put) [
  | inl same ↦ ap (λ j. get_or (one_more counts put) j 0) same ∙ get_or-set_same counts put _ 0 inside ∙ sym (ap₂ (λ j b. get_or counts j 0 + cond b 1 0) same (eq-eqb put k (sym same)))
  | inr apart ↦ (let other : put ≢ k = (λ e. apart (sym e)) in let e : get_or counts k 0 + 0 ≡ get_or counts k 0 = omega arith in
      get_or-set_other counts put k _ 0 apart ∙ sym (ap (λ b. get_or counts k 0 + cond b 1 0) (ne_eqb put k other) ∙ e))
]

pub exchanged_at : (counts : List ℕ) (out put k : ℕ) → out < length counts → put < length counts
    → get_or (exchanged counts (out, put)) k 0 ≡ (get_or counts k 0 - cond (eqb out k) 1 0) + cond (eqb put k) 1 0
exchanged_at counts out put k a b =
    one_more_at (one_less counts out) put k (let e = length-set counts out (get_or counts out 0 - 1) in omega arith)
    ∙ ap (λ n. n + cond (eqb put k) 1 0) (one_less_at counts out k a)

-- ---- all exchanges

-- what stands between the hand and the target: these tiles go out, those come in, and no kind does both
record Between (room counts target outs puts : List ℕ) : Type 0 where
  size : length counts ≡ 34
  outs_low : AllLow outs
  puts_low : AllLow puts
  level : (k : ℕ) → k < 34 → get_or counts k 0 + often k puts ≡ get_or target k 0 + often k outs
  apart : (k : ℕ) → k < 34 → (often k outs ≡ 0) ⊎ (often k puts ≡ 0)
  within : IsWithinRoom counts room
  target_within : IsWithinRoom target room

step : (room counts target : List ℕ) (out put : ℕ) (outs puts : List ℕ) → Between room counts target (out ∷ outs) (put ∷ puts)
    → MayExchange room counts (out, put) × Between room (exchanged counts (out, put)) target outs puts
step room counts target out put outs puts h = (
  record { out_kind = h.outs_low.0; in_kind = h.puts_low.0; held = held; within = within },
  record {
    size = exchanged_size counts out put ∙ h.size;
    outs_low = h.outs_low.1;
    puts_low = h.puts_low.1;
    level = level;
    apart = apart;
    within = within;
    target_within = h.target_within;
  },
)
  where
    out_here : often out (out ∷ outs) ≡ 1 + often out outs
    out_here = often-cons out out outs ∙ ap (λ b. cond b 1 0 + often out outs) (eq-eqb out out refl)

    put_here : often put (put ∷ puts) ≡ 1 + often put puts
    put_here = often-cons put put puts ∙ ap (λ b. cond b 1 0 + often put puts) (eq-eqb put put refl)

    held : 0 < get_or counts out 0
    held = (let l = h.level out h.outs_low.0 in let o = out_here in elim (h.apart out h.outs_low.0) [ inl a ↦ absurd (omega arith) | inr a ↦ omega arith ])

    at : (k : ℕ) → get_or (exchanged counts (out, put)) k 0 ≡ (get_or counts k 0 - cond (eqb out k) 1 0) + cond (eqb put k) 1 0
    at k = exchanged_at counts out put k (let s = h.size in let o = h.outs_low.0 in omega arith) (let s = h.size in let p = h.puts_low.0 in omega arith)

    level : (k : ℕ) → k < 34 → get_or (exchanged counts (out, put)) k 0 + often k puts ≡ get_or target k 0 + often k outs
    level k low =
        let a = at k in
        let b : often k (out ∷ outs) ≡ cond (eqb out k) 1 0 + often k outs = often-cons k out outs in
        let c : often k (put ∷ puts) ≡ cond (eqb put k) 1 0 + often k puts = often-cons k put puts in
        let l = h.level k low in
        elim (cases_eq out k) [
          | inl same ↦ (let e : ◌≡◌ {A = ℕ} (cond (eqb out k) 1 0) 1 = ap (λ b. cond b 1 0) (eq-eqb out k same) in
              let g : 0 < get_or counts k 0 = subst (λ j. 0 < get_or counts j 0) same held in omega arith)
          | inr other ↦ (let e : ◌≡◌ {A = ℕ} (cond (eqb out k) 1 0) 0 = ap (λ b. cond b 1 0) (ne_eqb out k other) in omega arith)
        ]

    apart : (k : ℕ) → k < 34 → (often k outs ≡ 0) ⊎ (often k puts ≡ 0)
    apart k low =
        let b : often k (out ∷ outs) ≡ cond (eqb out k) 1 0 + often k outs = often-cons k out outs in
        let c : often k (put ∷ puts) ≡ cond (eqb put k) 1 0 + often k puts = often-cons k put puts in
        elim (h.apart k low) [ inl a ↦ inl (omega arith) | inr a ↦ inr (omega arith) ]

    within : IsWithinRoom (exchanged counts (out, put)) room
    within k low =
        let a = at k in
        let w = h.within k low in
        let t = h.target_within k low in
        let l = h.level k low in
        let c : often k (put ∷ puts) ≡ cond (eqb put k) 1 0 + often k puts = often-cons k put puts in
        elim (cases_eq put k) [
          | inl same ↦ (let e : ◌≡◌ {A = ℕ} (cond (eqb put k) 1 0) 1 = ap (λ b. cond b 1 0) (eq-eqb put k same) in elim (h.apart k low) [ inl n ↦ omega arith | inr n ↦ absurd (omega arith) ])
          | inr other ↦ (let e : ◌≡◌ {A = ℕ} (cond (eqb put k) 1 0) 0 = ap (λ b. cond b 1 0) (ne_eqb put k other) in omega arith)
        ]

-- the last missing tile is a wait
last_wait : (room counts target : List ℕ) (put melds : ℕ) → length target ≡ 34 → IsComplete target melds → Between room counts target [] (put ∷ []) → IsReady counts room melds
last_wait room counts target put melds size complete h = (put, (h.puts_low.0, (less, subst (λ c. IsComplete c melds) (sym same) complete)))
  where
    level : (k : ℕ) → k < 34 → get_or counts k 0 + cond (eqb put k) 1 0 ≡ get_or target k 0
    level k low = (let l = h.level k low in let c : often k (put ∷ []) ≡ cond (eqb put k) 1 0 + 0 = often-cons k put [] in omega arith)

    less : get_or counts put 0 < get_or room put 0
    less = (let l = level put h.puts_low.0 in let e : ◌≡◌ {A = ℕ} (cond (eqb put put) 1 0) 1 = ap (λ b. cond b 1 0) (eq-eqb put put refl) in let t = h.target_within put h.puts_low.0 in omega arith)

    same : one_more counts put ≡ target
    same = ext_get_or 0 (one_more counts put) target (length-set counts put _ ∙ h.size ∙ sym size)
        (λ k inside. (let low : k < 34 = (let a = length-set counts put (get_or counts put 0 + 1) in let s = h.size in omega arith) in
        one_more_at counts put k (let s = h.size in let p = h.puts_low.0 in omega arith) ∙ level k low))

walk : (room counts target : List ℕ) (outs puts : List ℕ) (melds : ℕ) → length target ≡ 34 → IsComplete target melds → length puts ≡ suc (length outs)
    → Between room counts target outs puts → LeadsToReady counts room melds (length outs) (zip outs puts)
walk room counts target outs [] melds size complete one h = absurd (omega arith)
walk room counts target [] (put ∷ []) melds size complete one h = record { many = refl; each = tt; ready = last_wait room counts target put melds size complete h }
walk room counts target [] (put ∷ (next ∷ puts)) melds size complete one h = absurd (omega arith)
walk room counts target (out ∷ outs) (put ∷ puts) melds size complete one h =
    let s = step room counts target out put outs puts h in
    let r : LeadsToReady (exchanged counts (out, put)) room melds (length outs) (zip outs puts) = walk room (exchanged counts (out, put)) target outs puts melds size complete (omega arith) s.1 in
    record { many = ap (λ n. suc n) r.many; each = (s.0, r.each); ready = r.ready }

pub path_leads : (counts room target : List ℕ) (melds number : ℕ) → length counts ≡ 34 → IsHand counts room melds → IsShanten counts room melds number target
    → LeadsToReady counts room melds number (path_to counts target)
path_leads counts room target melds number size hand is =
    subst (λ n. LeadsToReady counts room melds n (path_to counts target)) surplus
    (walk room counts target (kinds_over counts target) (kinds_over target counts) melds is.is_goal.are_counts.size is.is_goal.complete
    (wanted ∙ ap (λ n. suc n) (sym surplus)) record {
      size = size;
      outs_low = over_low counts target;
      puts_low = over_low target counts;
      level = λ k low. (let a = over_at counts target k low in let b = over_at target counts k low in omega arith);
      apart = λ k low. (let a = over_at counts target k low in let b = over_at target counts k low in
          elim (cases_lt (get_or counts k 0) (get_or target k 0)) [ inl less ↦ inl (omega arith) | inr more ↦ inr (omega arith) ]);
      within = hand.within;
      target_within = is.is_goal.within;
    })
  where
    surplus : length (kinds_over counts target) ≡ number
    surplus =
        let a = over_length counts target size is.is_goal.are_counts.size in
        let b = balance counts target (size ∙ sym is.is_goal.are_counts.size) in
        let c = sum_complete target melds is.is_goal.complete in
        let d = hand.thirteen in
        let e = is.number_is in
        omega arith

    wanted : length (kinds_over target counts) ≡ suc number
    wanted = (let a = over_length target counts is.is_goal.are_counts.size size in let e = is.number_is in omega arith)

-- one kind more is listed
pub row_step : (counts others items next whole : List ℕ) (number kind more : ℕ) → number < 34
    → items ++ row (λ k. get_or counts k 0 - get_or others k 0) number (34 - number) ≡ whole
    → next ≡ items ++ replicate more kind → kind ≡ number → more ≡ get_or counts number 0 - get_or others number 0
    → next ++ row (λ k. get_or counts k 0 - get_or others k 0) (number + 1) (34 - (number + 1)) ≡ whole
row_step counts others items next whole number kind more inside before step is many =
    ap (λ xs. xs ++ row (λ k. get_or counts k 0 - get_or others k 0) (number + 1) (34 - (number + 1))) (step ∙ ap₂ (λ n k. items ++ replicate n k) many is)
    ∙ append_assoc items (replicate (get_or counts number 0 - get_or others number 0) number) (row (λ k. get_or counts k 0 - get_or others k 0) (number + 1) (34 - (number + 1)))
    ∙ (let e : 34 - number ≡ suc (34 - (number + 1)) = omega arith in ap (λ n. items ++ row (λ k. get_or counts k 0 - get_or others k 0) number n) (sym e))
    ∙ before

pub row_start : (counts others items : List ℕ) → items ≡ [] → items ++ row (λ k. get_or counts k 0 - get_or others k 0) 0 34 ≡ kinds_over counts others
unfolding kinds_over all_kinds
row_start counts others items none = ap (λ xs. xs ++ row (λ k. get_or counts k 0 - get_or others k 0) 0 34) none

pub row_end : (f : ℕ → ℕ) (items whole : List ℕ) (number : ℕ) → number ≡ 34 → items ++ row f number (34 - number) ≡ whole → items ≡ whole
row_end f items whole number last before =
    let e : 34 - number ≡ 0 = omega arith in
    sym (append-nil items) ∙ ap (λ n. items ++ row f number n) (sym e) ∙ before

-- the pairs of what was listed
pub path_from : (counts target surplus missed outs puts : List ℕ) (path : List (ℕ × ℕ)) → path ≡ zip outs puts → outs ≡ surplus → puts ≡ missed → surplus ≡ kinds_over counts target
    → missed ≡ kinds_over target counts → path ≡ path_to counts target
path_from counts target surplus missed outs puts path a b c d e = a ∙ ap₂ (λ x y. zip x y) (b ∙ d) (c ∙ e)
