-- The words of a hand, taken one by one, and the hand of all.
use Rattle.std.proofs.Common.{◌≡◌, ℕ, ◌+◌, ◌-◌, ◌*◌, ◌<◌, ◌≤◌, List, [], ◌∷◌, ◌++◌, length, get_or, map, drop, Bool, true, false, cond}
use Rattle.std.proofs.Common.{eqb, leb, ◌&&◌, refl, ap, ap₂, sym, ◌∙◌, append_assoc, append-nil, arith, subst, eq-eqb, inl, inr}
use Rattle.std.specs.Prelude.{Option, Some, None, option_map, option_and_then, MatchOption}
use Rattle.std.proofs.lemmas.Bool.{cases_Bool, cases_lt, leb-true}
use Rattle.std.proofs.lemmas.Grind.{flat_map-append}
use Rattle.std.proofs.lemmas.List.{get_or_past, at_drop_more}
use Rattle.std.proofs.lemmas.List.Sums.{sum_by-append}
use Rattle.mj_tiles.specs.Counts.{number_of, kind_counts, has_no_fifth, NoFifth}
use Rattle.mj_tiles.proofs.CountSteps.{length-kind_counts, get_or-kind_counts, number_of-append}
use Rattle.mj_hand.specs.declared.hand.Hand.{Hand}
use Rattle.mj_hand.specs.declared.hand.Gathered.{Gathered}
use Rattle.mj_hand.specs.Words.{Word, Tile, Meld, word_of, words_of}
use Rattle.mj_hand.specs.Hands.{held_in, melded_in, is_meld, held_tiles, melded_tiles, meld_count, room_beside, stands_once, has_each_red_once, hand_among, hand_with, hand_of}
use Rattle.mj_tiles.specs.Faces.{number_in}
use Rattle.mj_hand.specs.Inner.Gathering.{Gathers, TakesWord, Takes, one_if, are_within_four, room_left}
use Rattle.std.proofs.lemmas.Bool.{and_from}
use Rattle.mj_tiles.proofs.EachKind.{each_kind}
use Rattle.mj_hand.proofs.KindLists.{same_all, same_map}

-- words, and those that come after them where there are some
abbrev pub words_onto : List Word → Option (List Word) → Option (List Word)
words_onto words None = None
words_onto words (Some more) = Some (words ++ more)

-- The texts that are left are those after the words taken so far.
pub record GathersBefore (texts left : List (List ℕ)) (tiles others : List ℕ) (number : ℕ) : Type 0 where
  pub words : List Word
  pub read : words_of texts ≡ words_onto words (words_of left)
  pub held_are : tiles ≡ held_tiles words
  pub melded_are : others ≡ melded_tiles words
  pub melds_are : number ≡ meld_count words

pub gathers_start : (texts : List (List ℕ)) (tiles others : List ℕ) (number : ℕ) → tiles ≡ [] → others ≡ [] → number ≡ 0 → GathersBefore texts texts tiles others number
gathers_start texts tiles others number a b c = record { words = []; read = nothing (words_of texts); held_are = a; melded_are = b; melds_are = c }
  where
    nothing : (o : Option (List Word)) → o ≡ words_onto [] o
    nothing None = refl
    nothing (Some more) = refl

one_word : (words : List Word) (word : Word) (o : Option (List Word)) → words_onto words (option_map (λ more. word ∷ more) o) ≡ words_onto (words ++ word ∷ []) o
one_word words word None = refl
one_word words word (Some more) = ap (λ ws. Some ws) (sym (append_assoc words (word ∷ []) more))

melds-push : (words : List Word) (word : Word) → meld_count (words ++ word ∷ []) ≡ meld_count words + one_if (is_meld word)
melds-push words (Tile tile) = sum_by-append (λ w. cond (is_meld w) 1 0) words (Tile tile ∷ [])
melds-push words (Meld tiles) = sum_by-append (λ w. cond (is_meld w) 1 0) words (Meld tiles ∷ [])

-- a word more was taken
pub gathers_step : (texts others : List (List ℕ)) (text : List ℕ) (old new : Gathered) (word : Word) → GathersBefore texts (text ∷ others) old.held.items old.melded.items old.melds
    → word_of text ≡ Some word → TakesWord word old new → GathersBefore texts others new.held.items new.melded.items new.melds
gathers_step texts others text old new word before is takes = record {
  words = before.words ++ word ∷ [];
  read = before.read ∙ ap (λ o. words_onto before.words (option_and_then (λ w. option_map (λ ws. w ∷ ws) (words_of others)) o)) is ∙ one_word before.words word (words_of others);
  held_are = takes.held_are ∙ ap₂ (λ a b. a ++ b) before.held_are (sym (append-nil (held_in word))) ∙ sym (flat_map-append held_in before.words (word ∷ []));
  melded_are = takes.melded_are ∙ ap₂ (λ a b. a ++ b) before.melded_are (sym (append-nil (melded_in word))) ∙ sym (flat_map-append melded_in before.words (word ∷ []));
  melds_are = takes.melds_are ∙ ap (λ n. n + one_if (is_meld word)) before.melds_are ∙ sym (melds-push before.words word);
}

-- all words were taken
pub gathers_all : (texts : List (List ℕ)) (tiles others : List ℕ) (number : ℕ) → GathersBefore texts [] tiles others number → Gathers texts tiles others number
gathers_all texts tiles others number before = record {
  words = before.words;
  read = before.read ∙ ap (λ ws. Some ws) (append-nil before.words);
  held_are = before.held_are;
  melded_are = before.melded_are;
  melds_are = before.melds_are;
}

-- a text stands for no word
pub gathers_none : (texts others : List (List ℕ)) (text tiles melded_tiles : List ℕ) (number : ℕ) → GathersBefore texts (text ∷ others) tiles melded_tiles number → word_of text ≡ None
    → words_of texts ≡ None
gathers_none texts others text tiles melded_tiles number before is =
    before.read ∙ ap (λ o. words_onto before.words (option_and_then (λ w. option_map (λ ws. w ∷ ws) (words_of others)) o)) is

-- what was answered says whether there is a word
pub taken_word : (o : Option Word) (old new : Gathered) → Takes o true old new → (word : Word) × ((o ≡ Some word) × TakesWord word old new)
taken_word None old new h = cc
taken_word (Some word) old new h = (word, (refl, h.1))

pub not_taken : (o : Option Word) (old new : Gathered) → Takes o false old new → o ≡ None
not_taken None old new h = refl
not_taken (Some word) old new h = cc

-- ---- the hand of all tiles

within_is : (tiles others : List ℕ) → are_within_four (kind_counts tiles) (kind_counts others) ≡ has_no_fifth (tiles ++ others)
unfolding are_within_four has_no_fifth
within_is tiles others =
    same_all (λ k. leb (get_or (kind_counts tiles) k 0 + get_or (kind_counts others) k 0) 4) (λ k. leb (number_of (tiles ++ others) k) 4)
    (λ k low.
    ap₂ (λ a b. leb (a + b) 4) (get_or-kind_counts tiles k low) (get_or-kind_counts others k low)
    ∙ ap (λ n. leb n 4) (sym (number_of-append tiles others k)))

pub four_at : (tiles others : List ℕ) (k : ℕ) → k < 34 → has_no_fifth (tiles ++ others) ≡ true → number_of tiles k + number_of others k ≤ 4
unfolding has_no_fifth
four_at tiles others k low h =
    subst (λ n. n ≤ 4) (number_of-append tiles others k) (leb-true (number_of (tiles ++ others) k) 4 (each_kind (λ k. leb (number_of (tiles ++ others) k) 4) k low h))

no_fifth : (tiles : List ℕ) → ((k : ℕ) → k < 34 → number_of tiles k ≤ 4) → NoFifth (kind_counts tiles)
no_fifth tiles each kind = elim (cases_lt kind 34) [
  | inl low ↦ (let a = get_or-kind_counts tiles kind low in let b = each kind low in omega arith)
  | inr high ↦ (let a : get_or (kind_counts tiles) kind 0 ≡ 0 = get_or_past (kind_counts tiles) kind 0 (let s = length-kind_counts tiles in omega arith) in omega arith)
]

abbrev made : List ℕ → List ℕ → ℕ → Hand
made counts room number = record { counts = counts; room = room; melds = number }

and_none : (x y : Bool) → y ≡ false → (x && y) ≡ false
and_none true y h = h
and_none false y h = refl

fifth_none : (tiles others : List ℕ) (number : ℕ) → has_no_fifth (tiles ++ others) ≡ false → None ≡ hand_among tiles others number
fifth_none tiles others number h =
    ap (λ b. cond (b && has_each_red_once (tiles ++ others)) (Some (made (kind_counts tiles) (room_beside others) number)) None)
    (sym (and_none (eqb (length tiles + 3 * number) 13) (has_no_fifth (tiles ++ others)) h))

-- a red five stands in two lists as often as in the one and in the other
pub once_among : (tiles others : List ℕ) (face m n sum : ℕ) (result : Bool) → m ≡ number_in tiles face → n ≡ number_in others face → sum ≡ m + n → result ≡ leb sum 1
    → result ≡ stands_once (tiles ++ others) face
unfolding stands_once
once_among tiles others face m n sum result a b c h =
    h ∙ ap (λ k. leb k 1) (c ∙ ap₂ (λ x y. x + y) a b ∙ sym (sum_by-append (λ tile. cond (eqb tile face) 1 0) tiles others))

-- a red five stands twice among both
pub red_twice : (tiles others slice more : List ℕ) (number : ℕ) (result : Bool) → slice ≡ tiles → more ≡ others → result ≡ has_each_red_once (slice ++ more) → result ≡ false
    → None ≡ hand_among tiles others number
red_twice tiles others slice more number result a b is h =
    ap (λ b. cond b (Some (made (kind_counts tiles) (room_beside others) number)) None)
    (sym (and_none (eqb (length tiles + 3 * number) 13 && has_no_fifth (tiles ++ others)) (has_each_red_once (tiles ++ others)) (ap₂ (λ x y. has_each_red_once (x ++ y)) (sym a) (sym b) ∙ sym is ∙ h)))

-- too many or too few tiles
pub not_thirteen : (tiles others : List ℕ) (number : ℕ) → eqb (length tiles + 3 * number) 13 ≡ false → None ≡ hand_among tiles others number
not_thirteen tiles others number h =
    ap (λ b. cond ((b && has_no_fifth (tiles ++ others)) && has_each_red_once (tiles ++ others)) (Some (made (kind_counts tiles) (room_beside others) number)) None) (sym h)

-- a kind stands five times among the concealed tiles
pub no_counts : (tiles others slice : List ℕ) (number : ℕ) → slice ≡ tiles → (NoFifth (kind_counts slice) → ⊥) → None ≡ hand_among tiles others number
no_counts tiles others slice number same fifth = elim (cases_Bool (has_no_fifth (tiles ++ others))) [
  | inl h ↦ absurd (fifth (subst (λ xs. NoFifth (kind_counts xs)) (sym same) (no_fifth tiles (λ k low. (let a = four_at tiles others k low h in omega arith)))))
  | inr h ↦ fifth_none tiles others number h
]

-- a kind stands five times among the tiles of melds
pub no_room : (tiles others slice : List ℕ) (number : ℕ) → slice ≡ others → (NoFifth (kind_counts slice) → ⊥) → None ≡ hand_among tiles others number
no_room tiles others slice number same fifth = elim (cases_Bool (has_no_fifth (tiles ++ others))) [
  | inl h ↦ absurd (fifth (subst (λ xs. NoFifth (kind_counts xs)) (sym same) (no_fifth others (λ k low. (let a = four_at tiles others k low h in omega arith)))))
  | inr h ↦ fifth_none tiles others number h
]

-- a kind stands five times among both
pub not_within : (tiles others counts numbers : List ℕ) (number : ℕ) (result : Bool) → counts ≡ kind_counts tiles → numbers ≡ kind_counts others
    → result ≡ are_within_four counts numbers → result ≡ false → None ≡ hand_among tiles others number
not_within tiles others counts numbers number result a b is h =
    fifth_none tiles others number (sym (within_is tiles others) ∙ ap₂ (λ x y. are_within_four x y) (sym a) (sym b) ∙ sym is ∙ h)

beside : (others : List ℕ) → room_left (kind_counts others) ≡ room_beside others
unfolding room_left room_beside
beside others = same_map (λ k. 4 - get_or (kind_counts others) k 0) (λ k. 4 - number_of others k) (λ k low. ap (λ n. 4 - n) (get_or-kind_counts others k low))

-- the hand
pub whole_hand : (tiles others counts numbers room : List ℕ) (number : ℕ) (result : Bool) → length tiles + 3 * number ≡ 13 → counts ≡ kind_counts tiles → numbers ≡ kind_counts others
    → room ≡ room_left numbers → result ≡ are_within_four counts numbers → result ≡ true → (slice more : List ℕ) (once : Bool) → slice ≡ tiles → more ≡ others
    → once ≡ has_each_red_once (slice ++ more) → once ≡ true
    → Some (made counts room number) ≡ hand_among tiles others number
whole_hand tiles others counts numbers room number result thirteen a b r is h slice more once c d o t =
    let reds : has_each_red_once (tiles ++ others) ≡ true = ap₂ (λ x y. has_each_red_once (x ++ y)) (sym c) (sym d) ∙ sym o ∙ t in
    let fits : (eqb (length tiles + 3 * number) 13 && has_no_fifth (tiles ++ others)) ≡ true =
    and_from (eqb (length tiles + 3 * number) 13) (has_no_fifth (tiles ++ others)) (eq-eqb (length tiles + 3 * number) 13 thirteen)
    (sym (within_is tiles others) ∙ ap₂ (λ x y. are_within_four x y) (sym a) (sym b) ∙ sym is ∙ h) in
    ap₂ (λ c r. Some (made c r number)) a (r ∙ ap room_left b ∙ beside others)
    ∙ ap (λ b. cond b (Some (made (kind_counts tiles) (room_beside others) number)) None)
    (sym (and_from (eqb (length tiles + 3 * number) 13 && has_no_fifth (tiles ++ others)) (has_each_red_once (tiles ++ others)) fits reds))

-- what was made of all tiles is the hand of the texts
pub value_of : (texts : List (List ℕ)) (tiles others : List ℕ) (number : ℕ) (result : Option Hand) → Gathers texts tiles others number → result ≡ hand_among tiles others number
    → result ≡ hand_of texts
value_of texts tiles others number result g is =
    is ∙ ap₂ (λ a b. hand_among a b number) g.held_are g.melded_are ∙ ap (λ n. hand_among (held_tiles g.words) (melded_tiles g.words) n) g.melds_are
    ∙ ap (option_and_then hand_with) (sym g.read)

pub value_by : (texts : List (List ℕ)) (o : Option Gathered) (g : Gathered) (result : Option Hand) → MatchOption o (words_of texts ≡ None) (λ g. Gathers texts g.held.items g.melded.items g.melds)
    → o ≡ Some g → result ≡ hand_among g.held.items g.melded.items g.melds → result ≡ hand_of texts
value_by texts o g result m is =
    value_of texts g.held.items g.melded.items g.melds result (subst (λ (p : Option Gathered). MatchOption p (words_of texts ≡ None) (λ g. Gathers texts g.held.items g.melded.items g.melds)) is m)

-- ---- the texts one by one

pub first_text : {X : Type 0} (f : X → List ℕ) (items : List X) (i : ℕ) (item : X) (text : List ℕ) → i < length items → item ≡ get_or items i item → text ≡ f item
    → map f (drop i items) ≡ text ∷ map f (drop (i + 1) items)
first_text f items i item text inside is named =
    at_drop_more (λ xs. map f xs) items i item inside ∙ ap (λ t. t ∷ map f (drop (i + 1) items)) (ap f (sym is) ∙ sym named)

-- what is kept after a text more
pub record Turn (texts others : List (List ℕ)) (new : Gathered) (number : ℕ) : Type 0 where
  pub gathers : GathersBefore texts others new.held.items new.melded.items new.melds
  pub few : new.melds ≤ number + 1

at_most_one : (b : Bool) → one_if b ≤ 1
at_most_one true = omega arith
at_most_one false = omega arith

pub gathers_turn : (texts left others : List (List ℕ)) (text : List ℕ) (old new : Gathered) (taken : Bool) (number : ℕ) → left ≡ text ∷ others
    → GathersBefore texts left old.held.items old.melded.items old.melds → old.melds ≤ number → Takes (word_of text) taken old new → taken ≡ true → Turn texts others new number
gathers_turn texts left others text old new taken number begins before few takes is =
    let t = taken_word (word_of text) old new (subst (λ b. Takes (word_of text) b old new) is takes) in
    let one = at_most_one (is_meld t.0) in
    let more = t.1.1.melds_are in
    record {
      gathers = gathers_step texts others text old new t.0 (subst (λ l. GathersBefore texts l old.held.items old.melded.items old.melds) begins before) t.1.0 t.1.1;
      few = omega arith;
    }
