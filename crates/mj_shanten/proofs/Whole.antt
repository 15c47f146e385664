-- The four suits of a hand.
use Rattle.std.proofs.Common.{◌≡◌, ◌≢◌, inl, inr, zero, suc, ◌-◌, set, Bool, true, false, ℕ, ◌+◌, ◌<◌, ◌≤◌, List, [], ◌∷◌, ◌++◌, length, get_or, take, drop, refl, sym, subst, ap, ap₂, ◌∙◌, arith}
use Rattle.std.specs.Prelude.{EachIndex}
use Rattle.std.specs.List.{flat_map}
use Rattle.std.proofs.lemmas.List.{append-nil, take_all, take-append-drop, length-take-le, length-drop, drop-drop, get_or-take, get_or-drop}
use Rattle.std.proofs.lemmas.List.{append_assoc, take_at, get_or_append_left, get_or-append_right, length-set, drop-set-add, take-set-le}
use Rattle.std.proofs.Common.{get_or-set_other, get_or-set_same}
use Rattle.std.proofs.lemmas.Bool.{cases_lt, cases_eq}
use Rattle.mj_shanten.specs.Room.{IsWithinRoom}
use Rattle.mj_shanten.specs.Exchanges.{one_less}
use Rattle.mj_lists.proofs.Fronts.{zero_at}
use Rattle.mj_suits.specs.Targets.{missing}
use Rattle.mj_shanten.specs.declared.suits.Suit.{Suit}
use Rattle.mj_suits.specs.Rows.{Holds, lane, start_lane}
use Rattle.mj_suits.specs.SuitWalks.{Walk}
use Rattle.mj_suits.specs.declared.choosing.Choice.{Choice}
use Rattle.mj_suits.proofs.Tables.{start_few}
use Rattle.mj_suits.specs.Left.{IsChosen}
use Rattle.mj_suits.specs.Targets.{IsNearest}
use Rattle.mj_shanten.specs.Suits.{IsSuit, IsJoint, suit_from, suits_of, with_two}
use Rattle.mj_shanten.specs.Walked.{Tiles, IsRow, IsWide, AreWalked, AreTargetRows, IsWalkOf, IsPart, IsLeastOr}
use Rattle.mj_shanten.proofs.Turned.{turned}
use Rattle.mj_shanten.proofs.Joint.{AllSuits, JointMost, counts_in, no_suit, suit_more, none_chosen, suit_chosen, joint_nearest, joint_none, joint_tiles}

-- nine numbers, and then the others
nine_more : (held : List ℕ) (from next : ℕ) → next ≡ from + 9 → drop from held ≡ take 9 (drop from held) ++ drop next held
nine_more held from next is = sym (take-append-drop 9 (drop from held)) ∙ ap (λ r. take 9 (drop from held) ++ r) (drop-drop 9 from held ∙ ap (λ n. drop n held) (sym is))

pub four_nines : (held : List ℕ) → length held ≡ 36 → held ≡ flat_map (λ (s : Suit). s.counts) (suits_of held held)
four_nines held size =
    nine_more held 0 9 refl
    ∙ ap (λ r. take 9 (drop 0 held) ++ r)
    (nine_more held 9 18 refl ∙ ap (λ r. take 9 (drop 9 held) ++ r)
    (nine_more held 18 27 refl ∙ ap (λ r. take 9 (drop 18 held) ++ r)
    (sym (take_all 9 (drop 27 held) (let d = length-drop 27 held in omega arith)) ∙ sym (append-nil (take 9 (drop 27 held))))))

pub a_suit : (held room : List ℕ) (from : ℕ) (runs : Bool) → length held ≡ 36 → from ≤ 27 → EachIndex held (λ n. get_or held n 0 ≤ get_or room n 0)
    → EachIndex room (λ n. get_or room n 0 ≤ 4) → length room ≡ 36 → IsSuit (suit_from held room from runs)
a_suit held room from runs size far within of_four room_size = record {
  nine = length-take-le 9 (drop from held) (let d = length-drop from held in omega arith);
  held = λ n small. (let h : from + n < length held = omega arith in let w = within (from + n) h in let a = at_place held n small in let b = at_place room n small in omega arith);
  of_four = λ n small. (let h : from + n < length room = omega arith in let w = of_four (from + n) h in let b = at_place room n small in omega arith);
}
  where
    at_place : (xs : List ℕ) (n : ℕ) → n < 9 → get_or (take 9 (drop from xs)) n 0 ≡ get_or xs (from + n) 0
    at_place xs n small = get_or-take 9 (drop from xs) n 0 small ∙ get_or-drop from xs n 0

-- a suit out of the whole
pub part_suit : (held room : List ℕ) (from : ℕ) (runs : Bool) (s : Suit) → length held ≡ 36 → from ≤ 27 → EachIndex held (λ n. get_or held n 0 ≤ get_or room n 0)
    → EachIndex room (λ n. get_or room n 0 ≤ 4) → length room ≡ 36 → s ≡ suit_from held room from runs → IsSuit s
part_suit held room from runs s size far within of_four room_size is = subst IsSuit (sym is) (a_suit held room from runs size far within of_four room_size)

-- each of the four is a suit
pub four_are : (held room : List ℕ) → IsWide held room → AllSuits (suits_of held room)
four_are held room wide = (one 0 true (omega arith), (one 9 true (omega arith), (one 18 true (omega arith), (one 27 false (omega arith), tt))))
  where
    one : (from : ℕ) (runs : Bool) → from ≤ 27 → IsSuit (suit_from held room from runs) × (length (take 9 (drop from room)) ≡ 9)
    one from runs far = (
      a_suit held room from runs wide.held_size far wide.within wide.of_four wide.room_size,
      length-take-le 9 (drop from room) (let d = length-drop from room in let s = wide.room_size in omega arith),
    )

-- the last row of a target says what the hand leaves
pub last_row : (held room start honours bamboo circles characters : List ℕ) → AreTargetRows held room start honours bamboo circles characters → JointMost (suits_of held room) characters
last_row held room start honours bamboo circles characters are =
    let suits = four_are held room are.wide in
    suit_more (suit_from held room 0 true) _ circles characters suits.0.0 are.first
    (suit_more (suit_from held room 9 true) _ bamboo circles suits.1.0.0 are.second
    (suit_more (suit_from held room 18 true) _ honours bamboo suits.1.1.0.0 are.third
    (suit_more (suit_from held room 27 false) _ start honours suits.1.1.1.0.0 are.fourth (no_suit start are.start_is))))

-- the suits from the honours to the characters
abbrev pub suits_back : List ℕ → List ℕ → List Suit
suits_back held room = suit_from held room 27 false ∷ suit_from held room 18 true ∷ suit_from held room 9 true ∷ suit_from held room 0 true ∷ []

-- the row of the honours says what the suits in that order leave
last_back : (held room start characters circles bamboo honours : List ℕ) → AreWalked held room start characters circles bamboo honours → JointMost (suits_back held room) honours
last_back held room start characters circles bamboo honours are =
    let suits = four_are held room are.wide in
    suit_more (suit_from held room 27 false) _ bamboo honours suits.1.1.1.0.0 are.fourth
    (suit_more (suit_from held room 18 true) _ circles bamboo suits.1.1.0.0 are.third
    (suit_more (suit_from held room 9 true) _ characters circles suits.1.0.0 are.second
    (suit_more (suit_from held room 0 true) _ start characters suits.0.0 are.first (no_suit start are.start_is))))

suit_same : (a b : Suit) (after : List ℕ) (s p left : ℕ) (target : List ℕ) (sa pa : ℕ) → a ≡ b → IsChosen a.counts a.room a.runs after s p left target sa pa
    → IsChosen b.counts b.room b.runs after s p left target sa pa
suit_same a b after s p left target sa pa same chosen = subst (λ (u : Suit). IsChosen u.counts u.room u.runs after s p left target sa pa) same chosen

abbrev pub tiles_of : List ℕ → List ℕ → Tiles
tiles_of held room = record { counts = take 34 held; room = take 34 room }

-- by the counts that are known of the hand
pub of_tiles : (tiles : Tiles) (held room : List ℕ) (P : List ℕ → List ℕ → Type 0) → tiles_of held room ≡ tiles → held ≡ with_two (take 34 held) → room ≡ with_two (take 34 room)
    → P held room → P (with_two tiles.counts) (with_two tiles.room)
of_tiles tiles held room P same held_is room_is p =
    subst (λ (t : Tiles). P (with_two t.counts) (with_two t.room)) same (subst (λ h. P h (with_two (take 34 room))) held_is (subst (λ r. P held r) room_is p))

counts_are : (held room : List ℕ) → length held ≡ 36 → counts_in (suits_of held room) ≡ held
counts_are held room size = sym (four_nines held size)

pub same_tiles_of : (counts room counts' room' : List ℕ) → counts ≡ counts' → room ≡ room' → (let t : Tiles = record { counts = counts; room = room } in t) ≡ record { counts = counts'; room = room' }
same_tiles_of counts room counts' room' a b = ap₂ (λ x y. let t : Tiles = record { counts = x; room = y } in t) a b

pub held_of : (tiles : Tiles) (held room : List ℕ) → tiles_of held room ≡ tiles → held ≡ with_two (take 34 held) → held ≡ with_two tiles.counts
held_of tiles held room same held_is = subst (λ (t : Tiles). held ≡ with_two t.counts) same held_is

pub sizes_of : (tiles : Tiles) (held room : List ℕ) → tiles_of held room ≡ tiles → length held ≡ 36 → length room ≡ 36 → (length tiles.counts ≡ 34) × (length tiles.room ≡ 34)
sizes_of tiles held room same size room_size = subst (λ (t : Tiles). (length t.counts ≡ 34) × (length t.room ≡ 34)) same (length-take-le 34 held (omega arith), length-take-le 34 room (omega arith))

-- the row of a walked suit
walk_row : (s : Suit) (held room : List ℕ) (from : ℕ) (runs : Bool) (after before : List ℕ) (walk : Walk) → IsWalkOf s after walk → s ≡ suit_from held room from runs → after ≡ before
    → IsRow (suit_from held room from runs) before walk.row
walk_row s held room from runs after before walk is same same_after = subst (λ (u : Suit). IsRow u before walk.row) same (subst (λ a. IsRow s a walk.row) same_after is.row)

-- the walks from the honours to the characters have the rows of a target
pub target_rows : (held room start h b c : List ℕ) (four three two one : Suit) (honours bamboo circles characters : Walk) → IsWide held room → Holds start start_lane
    → four ≡ suit_from held room 27 false → three ≡ suit_from held room 18 true → two ≡ suit_from held room 9 true → one ≡ suit_from held room 0 true
    → IsWalkOf four start honours → h ≡ honours.row → IsWalkOf three h bamboo → b ≡ bamboo.row → IsWalkOf two b circles → c ≡ circles.row → IsWalkOf one c characters
    → AreTargetRows held room start honours.row bamboo.row circles.row characters.row
target_rows held room start h b c four three two one honours bamboo circles characters wide start_is four_is three_is two_is one_is honours_are h_is bamboo_is b_is circles_are c_is
    characters_are = record {
      wide = wide;
      start_is = start_is;
      start_few = start_few start start_is;
      fourth = walk_row four held room 27 false start start honours honours_are four_is refl;
      third = walk_row three held room 18 true h honours.row bamboo bamboo_is three_is h_is;
      second = walk_row two held room 9 true b bamboo.row circles circles_are two_is b_is;
      first = walk_row one held room 0 true c circles.row characters characters_are one_is c_is;
    }

-- a part is chosen of the suit
pub part_chosen : (s : Suit) (after before : List ℕ) (walk : Walk) (sets pairs : ℕ) (choice : Choice) → IsWalkOf s after walk → after ≡ before → IsPart walk sets pairs choice
    → IsChosen s.counts s.room s.runs before sets pairs (lane walk.row sets pairs) choice.target choice.sets choice.pairs
part_chosen s after before walk sets pairs choice is same part =
    subst (λ a. IsChosen s.counts s.room s.runs a sets pairs (lane walk.row sets pairs) choice.target choice.sets choice.pairs) (is.after_is ∙ same)
    (subst (λ u. IsChosen u.counts u.room u.runs walk.after sets pairs (lane walk.row sets pairs) choice.target choice.sets choice.pairs) is.suit_is part)

-- where nothing is left no hand fits
pub none_joint : (tiles : Tiles) (held room start honours bamboo circles characters : List ℕ) (s : ℕ) → tiles_of held room ≡ tiles
    → AreTargetRows held room start honours bamboo circles characters → s ≤ 4 → lane characters s 1 ≡ 0
    → (target : List ℕ) → IsJoint (suits_of (with_two tiles.counts) (with_two tiles.room)) s true target → ⊥
none_joint tiles held room start honours bamboo circles characters s same are few none =
    of_tiles tiles held room (λ h r. (target : List ℕ) → IsJoint (suits_of h r) s true target → ⊥) same are.wide.held_is are.wide.room_is
    (λ target joint.
    let bound = joint_tiles (suits_of held room) s true target held (four_are held room are.wide) joint (counts_are held room are.wide.held_size) in
    joint_none (suits_of held room) characters held s few (counts_are held room are.wide.held_size) (last_row held room start honours bamboo circles characters are) none target joint (omega arith))

-- the targets of the four suits are the nearest hand
pub found_joint : (tiles : Tiles) (held room start honours bamboo circles characters : List ℕ) (s : ℕ) (a b c d : Suit) (one two three four target : List ℕ)
    (sa pa sb pb sc pc sd pd : ℕ) → tiles_of held room ≡ tiles → AreTargetRows held room start honours bamboo circles characters → s ≤ 4
    → a ≡ suit_from held room 0 true → b ≡ suit_from held room 9 true → c ≡ suit_from held room 18 true → d ≡ suit_from held room 27 false → lane characters s 1 ≢ 0
    → IsChosen a.counts a.room a.runs circles s 1 (lane characters s 1) one sa pa → IsChosen b.counts b.room b.runs bamboo sa pa (lane circles sa pa) two sb pb
    → IsChosen c.counts c.room c.runs honours sb pb (lane bamboo sb pb) three sc pc → IsChosen d.counts d.room d.runs start sc pc (lane honours sc pc) four sd pd
    → target ≡ one ++ (two ++ (three ++ (four ++ [])))
    → IsNearest (with_two tiles.counts) (IsJoint (suits_of (with_two tiles.counts) (with_two tiles.room)) s true) (missing target (with_two tiles.counts)) target
found_joint tiles held room start honours bamboo circles characters s a b c d one two three four target sa pa sb pb sc pc sd pd same are few a_is b_is c_is d_is some first second third
    fourth target_is =
    let suits = four_are held room are.wide in
    let m4 = suit_more (suit_from held room 27 false) [] start honours suits.1.1.1.0.0 are.fourth (no_suit start are.start_is) in
    let m3 = suit_more (suit_from held room 18 true) (suit_from held room 27 false ∷ []) honours bamboo suits.1.1.0.0 are.third m4 in
    let m2 = suit_more (suit_from held room 9 true) (suit_from held room 18 true ∷ suit_from held room 27 false ∷ []) bamboo circles suits.1.0.0 are.second m3 in
    let s1 = first.is.sets_are in
    let p1 = first.is.pairs_are in
    let l1 = first.is.left_is in
    let s2 = second.is.sets_are in
    let p2 = second.is.pairs_are in
    let l2 = second.is.left_is in
    let s3 = third.is.sets_are in
    let p3 = third.is.pairs_are in
    let l3 = third.is.left_is in
    let s4 = fourth.is.sets_are in
    let p4 = fourth.is.pairs_are in
    let l4 = fourth.is.left_is in
    let j5 = none_chosen start sd pd are.start_is (omega arith) (omega arith) (omega arith) in
    let j4 = suit_chosen (suit_from held room 27 false) [] start honours sc pc (lane honours sc pc) four [] sd pd suits.1.1.1.0.0 suits.1.1.1.0.1 are.fourth
    (no_suit start are.start_is) (omega arith) (omega arith) refl (suit_same d _ start sc pc (lane honours sc pc) four sd pd d_is fourth) j5 in
    let j3 = suit_chosen (suit_from held room 18 true) (suit_from held room 27 false ∷ []) honours bamboo sb pb
    (lane bamboo sb pb) three _ sc pc suits.1.1.0.0 suits.1.1.0.1 are.third m4 (omega arith) (omega arith) refl (suit_same c _ honours sb pb (lane bamboo sb pb) three sc pc c_is third) j4 in
    let j2 = suit_chosen (suit_from held room 9 true) (suit_from held room 18 true ∷ suit_from held room 27 false ∷ []) bamboo circles sa pa
    (lane circles sa pa) two _ sb pb suits.1.0.0 suits.1.0.1 are.second m3 (omega arith) (omega arith) refl (suit_same b _ bamboo sa pa (lane circles sa pa) two sb pb b_is second) j3 in
    let j1 = suit_chosen (suit_from held room 0 true) (suit_from held room 9 true ∷ suit_from held room 18 true ∷ suit_from held room 27 false ∷ []) circles characters s 1
    (lane characters s 1) one _ sa pa suits.0.0 suits.0.1 are.first m2 (omega arith) (omega arith) refl (suit_same a _ circles s 1 (lane characters s 1) one sa pa a_is first) j2 in
    of_tiles tiles held room (λ h r. IsNearest h (IsJoint (suits_of h r) s true) (missing target h) target) same are.wide.held_is are.wide.room_is
    (subst (λ t. IsNearest held (IsJoint (suits_of held room) s true) (missing t held) t) (sym target_is)
    (joint_nearest (suits_of held room) characters held (one ++ (two ++ (three ++ (four ++ [])))) s (omega arith) (counts_are held room are.wide.held_size)
    (last_row held room start honours bamboo circles characters are) j1))

-- the target as it is written, suit by suit
pub four_written : (a b c d one two three four : List ℕ) → length d ≡ 36 → take 9 a ≡ one → take 18 b ≡ take 9 a ++ two → take 27 c ≡ take 18 b ++ three → take 36 d ≡ take 27 c ++ four
    → d ≡ one ++ (two ++ (three ++ (four ++ [])))
four_written a b c d one two three four size e f g h =
    sym (take_all 36 d (omega arith)) ∙ h ∙ ap (λ x. x ++ four) (g ∙ ap (λ x. x ++ three) (f ∙ ap (λ x. x ++ two) e))
    ∙ append_assoc (one ++ two) three four ∙ append_assoc one two (three ++ four) ∙ ap (λ x. one ++ (two ++ (three ++ x))) (sym (append-nil four))

-- ---- a hand with two numbers more

pub front_two : (wide c : List ℕ) → wide ≡ with_two c → length c ≡ 34 → (take 34 wide ≡ c) × (wide ≡ with_two (take 34 wide))
front_two wide c is size = (let front : take 34 wide ≡ c = ap (take 34) is ∙ take_at c (0 ∷ 0 ∷ []) 34 size in (front, is ∙ ap with_two (sym front)))

pub wide_within : (held wide counts room : List ℕ) → held ≡ with_two counts → wide ≡ with_two room → length counts ≡ 34 → length room ≡ 34 → IsWithinRoom counts room
    → EachIndex held (λ n. get_or held n 0 ≤ get_or wide n 0)
wide_within held wide counts room a b size room_size within n inside = elim (cases_lt n 34) [
  | inl low ↦
      let x : get_or held n 0 ≡ get_or counts n 0 = ap (λ h. get_or h n 0) a ∙ get_or_append_left counts (0 ∷ 0 ∷ []) 0 n (omega arith) in
      let y : get_or wide n 0 ≡ get_or room n 0 = ap (λ h. get_or h n 0) b ∙ get_or_append_left room (0 ∷ 0 ∷ []) 0 n (omega arith) in
      let w : get_or counts n 0 ≤ get_or room n 0 = within n low in
      omega arith
  | inr past ↦ (let x : get_or held n 0 ≡ 0 = ap (λ h. get_or h n 0) a ∙ get_or-append_right counts (0 ∷ 0 ∷ []) 34 n 0 size past ∙ zero_at 2 (n - 34) in omega arith)
]

pub wide_four : (wide room : List ℕ) → wide ≡ with_two room → length room ≡ 34 → ((n : ℕ) → get_or room n 0 ≤ 4) → EachIndex wide (λ n. get_or wide n 0 ≤ 4)
wide_four wide room b size few n inside = elim (cases_lt n 34) [
  | inl low ↦ (let y : get_or wide n 0 ≡ get_or room n 0 = ap (λ h. get_or h n 0) b ∙ get_or_append_left room (0 ∷ 0 ∷ []) 0 n (omega arith) in let f = few n in omega arith)
  | inr past ↦ (let y : get_or wide n 0 ≡ 0 = ap (λ h. get_or h n 0) b ∙ get_or-append_right room (0 ∷ 0 ∷ []) 34 n 0 size past ∙ zero_at 2 (n - 34) in omega arith)
]

-- one tile less of a kind
pub less_two : (held : List ℕ) (kind number : ℕ) → length held ≡ 36 → kind < 34 → held ≡ with_two (take 34 held)
    → (set held kind number ≡ with_two (take 34 (set held kind number))) × (take 34 (set held kind number) ≡ set (take 34 held) kind number)
less_two held kind number size low is =
    let long : length (take 34 held) ≡ 34 = length-take-le 34 held (omega arith) in
    let front : set held kind number ≡ with_two (set (take 34 held) kind number) = ap (λ h. set h kind number) is ∙ set-append_left (take 34 held) (0 ∷ 0 ∷ []) kind number (omega arith) in
    let parts = front_two (set held kind number) (set (take 34 held) kind number) front (length-set (take 34 held) kind number ∙ long) in
    (parts.1, parts.0)
  where
    set-append_left : (xs ys : List ℕ) (k v : ℕ) → k < length xs → set (xs ++ ys) k v ≡ set xs k v ++ ys
    set-append_left [] ys k v inside = absurd (omega arith)
    set-append_left (x ∷ xs) ys zero v inside = refl
    set-append_left (x ∷ xs) ys (suc k) v inside = ap (λ zs. x ∷ zs) (set-append_left xs ys k v (omega arith))

pub less_within : (held room : List ℕ) (kind number : ℕ) → number ≤ get_or held kind 0 → EachIndex held (λ n. get_or held n 0 ≤ get_or room n 0)
    → EachIndex (set held kind number) (λ n. get_or (set held kind number) n 0 ≤ get_or room n 0)
less_within held room kind number less within n inside =
    let long : length (set held kind number) ≡ length held = length-set held kind number in
    elim (cases_eq n kind) [
      | inl same ↦
          let here : n < length held = omega arith in
          let e : get_or (set held kind number) n 0 ≡ number = ap (λ k. get_or (set held kind number) k 0) same ∙ get_or-set_same held kind number 0 (omega arith) in
          let w : get_or held n 0 ≤ get_or room n 0 = within n here in
          let f : get_or held n 0 ≡ get_or held kind 0 = ap (λ k. get_or held k 0) same in
          omega arith
      | inr other ↦
          let e : get_or (set held kind number) n 0 ≡ get_or held n 0 = get_or-set_other held kind n number 0 other in
          let w : get_or held n 0 ≤ get_or room n 0 = within n (omega arith) in
          omega arith
    ]

pub less_of : (tiles : Tiles) (held room : List ℕ) (kind number : ℕ) → number ≡ kind → tiles_of held room ≡ tiles → length held ≡ 36 → kind < 34 → held ≡ with_two (take 34 held)
    → tiles_of (set held number (get_or held number 0 - 1)) room ≡ record { counts = one_less tiles.counts kind; room = tiles.room }
less_of tiles held room kind number kind_is same size low is =
    subst (λ n. tiles_of (set held n (get_or held n 0 - 1)) room ≡ record { counts = one_less tiles.counts kind; room = tiles.room }) (sym kind_is)
    (subst (λ (t : Tiles). tiles_of (set held kind (get_or held kind 0 - 1)) room ≡ record { counts = one_less t.counts kind; room = t.room }) same
    (same_tiles_of _ _ _ _ ((less_two held kind (get_or held kind 0 - 1) size low is).1 ∙ ap (λ n. set (take 34 held) kind (n - 1)) (sym (get_or-take 34 held kind 0 low))) refl))

-- what the last row leaves says the fewest tiles that a hand of so many sets and a pair misses
pub least_joint : (tiles : Tiles) (held room start characters circles bamboo honours : List ℕ) (s left : ℕ) → tiles_of held room ≡ tiles
    → AreWalked held room start characters circles bamboo honours → s ≤ 4 → left ≡ lane honours s 1
    → IsLeastOr (with_two tiles.counts) (IsJoint (suits_of (with_two tiles.counts) (with_two tiles.room)) s true) (15 - left)
least_joint tiles held room start characters circles bamboo honours s left same are few left_is =
    let row = last_back held room start characters circles bamboo honours are in
    let suits = four_are held room are.wide in
    let size = are.wide.held_size in
    of_tiles tiles held room (λ h r. IsLeastOr h (IsJoint (suits_of h r) s true) (15 - left)) same are.wide.held_is are.wide.room_is record {
      least = λ t joint.
          (let back = turned _ _ _ _ s true t suits.0.0 suits.1.0.0 suits.1.1.0.0 suits.1.1.1.0.0 joint in
          let m = row.most s 1 back.tiles (omega arith) (omega arith) back.is in
          let f = back.missed in
          let e : missing t (counts_in (suits_of held room)) ≡ missing t held = ap (missing t) (counts_are held room size) in
          omega arith);
      few = λ t joint. (let b = joint_tiles (suits_of held room) s true t held suits joint (counts_are held room size) in omega arith);
      some = elim (cases_eq (lane honours s 1) 0) [
        | inl none ↦ inl (omega arith)
        | inr some ↦
            let found = row.some s 1 (omega arith) (omega arith) (omega arith) in
            let back = turned _ _ _ _ s true found.0 suits.1.1.1.0.0 suits.1.1.0.0 suits.1.0.0 suits.0.0 found.1.is in
            let l = found.1.left_is in
            let f = back.missed in
            let e : missing back.tiles (counts_in (suits_of held room)) ≡ missing back.tiles held = ap (missing back.tiles) (counts_are held room size) in
            inr (back.tiles, (back.is, omega arith))
      ];
    }

-- ---- the suits of which no tile is less

-- a suit before the kind's has the same tiles
pub same_suit : (held room : List ℕ) (kind number from : ℕ) (runs : Bool) → from + 9 ≤ kind → suit_from held room from runs ≡ suit_from (set held kind number) room from runs
same_suit held room kind number from runs past = ap (λ c. let s : Suit = record { counts = c; room = take 9 (drop from room); runs = runs } in s) (sym same)
  where
    place : from + (kind - from) ≡ kind
    place = omega arith

    same : take 9 (drop from (set held kind number)) ≡ take 9 (drop from held)
    same = ap (λ k. take 9 (drop from (set held k number))) (sym place) ∙ ap (take 9) (drop-set-add from held (kind - from) number) ∙ take-set-le 9 (drop from held) (kind - from) number (omega arith)

pub same_row : (held room after row : List ℕ) (number less from : ℕ) (runs : Bool) → from + 9 ≤ number → IsRow (suit_from held room from runs) after row
    → IsRow (suit_from (set held number less) room from runs) after row
same_row held room after row number less from runs past is = subst (λ (s : Suit). IsRow s after row) (same_suit held room number less from runs past) is

-- a hand with two numbers more, of one tile less
pub less_wide : (held room : List ℕ) (kind number less : ℕ) → number ≡ kind → kind < 34 → less ≤ get_or held number 0 → IsWide held room → IsWide (set held number less) room
less_wide held room kind number less kind_is low few wide = record {
  held_size = length-set held number less ∙ wide.held_size;
  room_size = wide.room_size;
  within = less_within held room number less few wide.within;
  of_four = wide.of_four;
  held_is = (less_two held number less wide.held_size (omega arith) wide.held_is).0;
  room_is = wide.room_is;
}

-- the counts and the room of a hand with two numbers more
pub new_wide : (held wide counts room : List ℕ) → length held ≡ 36 → length wide ≡ 36 → held ≡ with_two counts → wide ≡ with_two room → length counts ≡ 34 → length room ≡ 34
    → ((n : ℕ) → get_or room n 0 ≤ 4) → IsWithinRoom counts room → IsWide held wide
new_wide held wide counts room held_size wide_size a b size room_size few within = record {
  held_size = held_size;
  room_size = wide_size;
  within = wide_within held wide counts room a b size room_size within;
  of_four = wide_four wide room b room_size few;
  held_is = (front_two held counts a size).1;
  room_is = (front_two wide room b room_size).1;
}
