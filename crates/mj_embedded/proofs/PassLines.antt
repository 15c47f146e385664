-- The line of a deed shows a pass alone exactly where that is all that it lists.
use Rattle.std.proofs.Common.{◌≡◌, ℕ, zero, suc, ◌+◌, ◌-◌, ◌/◌, ◌%◌, ◌==◌, ◌⊎◌, inl, inr, Bool, true, false, cond, List}
use Rattle.std.proofs.Common.{[], ◌∷◌, ◌++◌, length, take, refl, sym, ap, subst, ◌∙◌, append-nil, append_assoc, arith}
use Rattle.std.specs.Prelude.{Option, Result, Ok, Err, IfOk, unwrap_or, slice_get, codes, decimal, map, flat_map, nat_lt}
use Rattle.std.specs.declared.alloc.AllocError.{AllocError}
use Rattle.std.specs.Fmt.{digit_glyph, digits_onto, digits}
use Rattle.std.proofs.lemmas.Bool.Decides.{Decides-eqb}
use Rattle.std.proofs.lemmas.List.Prefix.{end_rest}
use Rattle.std.proofs.lemmas.Slice.Eq.{ends_is}
use Rattle.mj_lists.proofs.Fronts.{at_end}
use Rattle.mj_deeds.specs.declared.answer.Pai.{Pai}
use Rattle.mj_deeds.specs.declared.answer.Answer.{Answer}
use Rattle.mj_deeds.specs.declared.answer.Answer.TheVariants.{Unread, Pass, Discard, Chi, Pon, OpenKan, ClosedKan, AddedKan, Reach, Win, NineKinds}
use Rattle.mj_deeds.specs.declared.deed.Deed.{Deed}
use Rattle.mj_deeds.specs.declared.deed.Viewer.TheVariants.{Seat}
use Rattle.mj_wall.specs.declared.setting.Rules.{Rules}
use Rattle.mj_rules.specs.Possible.{possible}
use Rattle.mj_forms.specs.Lines.{bracketed, joined, line}
use Rattle.mj_forms.specs.Choices.{pai_text, actor_field, target_field, pai_field, consumed_field, tsumogiri_field, type_field, answer_text, possible_text, line_with}
use Rattle.mj_history.specs.Shown.{line_at}
use Rattle.mj_history.specs.SeatLines.{seat_line, lines_for}
use Rattle.mj_history.proofs.LinesGrow.{lines_for-more, length-lines}
use Rattle.mj_stepped.specs.Choices.{is_pass, is_pass_alone}
use Rattle.mj_embedded.specs.Turns.{pass_list, shows_pass}

-- Lists that end alike

abbrev head_of : List ℕ → ℕ
head_of [] = 0
head_of (x ∷ xs) = x

-- What stands before the same end is the same.
differs : (front others rest : List ℕ) (a b : ℕ) → front ++ (a ∷ rest) ≡ others ++ (b ∷ rest) → a ≡ b
differs front others rest a b e =
    ap head_of (sym (end_rest (front ++ (a ∷ rest)) (a ∷ rest) front refl) ∙ end_rest (front ++ (a ∷ rest)) (b ∷ rest) others e)

refutes : (text front middle others rest : List ℕ) (a b : ℕ) → text ≡ front ++ (a ∷ rest) → text ≡ others ++ (middle ++ (b ∷ rest)) → a ≡ b
refutes text front middle others rest a b is e =
    differs front (others ++ middle) rest a b (sym is ∙ (e ∙ sym (append_assoc others middle (b ∷ rest))))

-- The end that shows a pass alone, from its last bytes on.
abbrev none_text : List ℕ
none_text = codes "{\"type\":\"none\"}"

abbrev opened : List ℕ
opened = codes ",\"possible_actions\":"

abbrev closed : List ℕ
closed = 93 ∷ 125 ∷ 10 ∷ []

abbrev to_brace : List ℕ
to_brace = codes ",\"possible_actions\":[{\"type\":\"none\""

abbrev to_quote : List ℕ
to_quote = codes ",\"possible_actions\":[{\"type\":\"none"

-- A text shows it exactly where it ends so.
tells : (text : List ℕ) → (shows_pass text ≡ true → text ≡ take (length text - length pass_list) text ++ pass_list) × ((front : List ℕ) → text ≡ front ++ pass_list → shows_pass text ≡ true)
tells text = ends_is Decides-eqb text pass_list (shows_pass text) refl

never : (text : List ℕ) → (shows_pass text ≡ true → ⊥) → shows_pass text ≡ false
never text h = by (shows_pass text) refl
  where
    by : (b : Bool) → shows_pass text ≡ b → shows_pass text ≡ false
    by true is = absurd (h is)
    by false is = is

-- How the texts of answers end

-- A text ends with a brace, and what stands before that is no quotation mark.
record EndsElse (text : List ℕ) : Type 0 where
  front : List ℕ
  byte : ℕ
  is : text ≡ front ++ (byte ∷ 125 ∷ [])
  other : byte ≡ 34 → ⊥

-- The last byte of a text is no quotation mark.
record LastElse (text : List ℕ) : Type 0 where
  front : List ℕ
  byte : ℕ
  is : text ≡ front ++ (byte ∷ [])
  other : byte ≡ 34 → ⊥

behind : (before text : List ℕ) → LastElse text → LastElse (before ++ text)
behind before text e = record {
  front = before ++ e.front;
  byte = e.byte;
  is = ap (λ (t : List ℕ). before ++ t) e.is ∙ sym (append_assoc before e.front (e.byte ∷ []));
  other = e.other;
}

braced : (text : List ℕ) → LastElse text → EndsElse (text ++ codes "}")
braced text e = record {
  front = e.front;
  byte = e.byte;
  is = ap (λ (t : List ℕ). t ++ codes "}") e.is ∙ append_assoc e.front (e.byte ∷ []) (codes "}");
  other = e.other;
}

-- A number ends with a digit.
either_ends : (b : Bool) (last : ℕ) (rest more : List ℕ) → (front : List ℕ) × (more ≡ front ++ (last ∷ rest)) → (front : List ℕ) × (cond b (last ∷ rest) more ≡ front ++ rest)
either_ends true last rest more r = (last ∷ [], refl)
either_ends false last rest more r = (r.0 ++ (last ∷ []), r.1 ∙ sym (append_assoc r.0 (last ∷ []) rest))

onto_ends : (k n : ℕ) (rest : List ℕ) → (front : List ℕ) × (digits_onto k 10 false n rest ≡ front ++ rest)
onto_ends zero n rest = ([], refl)
onto_ends (suc k) n rest =
    either_ends (n / 10 == 0) (digit_glyph false (n % 10)) rest (digits_onto k 10 false (n / 10) (digit_glyph false (n % 10) ∷ rest))
    (onto_ends k (n / 10) (digit_glyph false (n % 10) ∷ rest))

last_ends : (b : Bool) (last : ℕ) (more : List ℕ) → (front : List ℕ) × (more ≡ front ++ (last ∷ [])) → (front : List ℕ) × (cond b (last ∷ []) more ≡ front ++ (last ∷ []))
last_ends true last more r = ([], refl)
last_ends false last more r = r

decimal_ends : (n : ℕ) → (front : List ℕ) × (decimal n ≡ front ++ (digit_glyph false (n % 10) ∷ []))
unfolding digits
decimal_ends n =
    last_ends (n / 10 == 0) (digit_glyph false (n % 10)) (digits_onto 63 10 false (n / 10) (digit_glyph false (n % 10) ∷ []))
    (onto_ends 63 (n / 10) (digit_glyph false (n % 10) ∷ []))

no_mark : (digit : ℕ) → digit_glyph false digit ≡ 34 → ⊥
no_mark digit e = by (nat_lt digit 10) e
  where
    by : (b : Bool) → cond b (48 + digit) (87 + digit) ≡ 34 → ⊥
    by true h = omega (arith, h)
    by false h = omega (arith, h)

seat_ends : (seat : ℕ) → LastElse (decimal seat)
seat_ends seat =
    let d = decimal_ends seat in
    record { front = d.0; byte = digit_glyph false (seat % 10); is = d.1; other = no_mark (seat % 10) }

actor_ends : (seat : ℕ) → LastElse (actor_field seat)
unfolding actor_field
actor_ends seat = behind (codes ",\"actor\":") (decimal seat) (seat_ends seat)

target_ends : (seat : ℕ) → LastElse (target_field seat)
unfolding target_field
target_ends seat = behind (codes ",\"target\":") (decimal seat) (seat_ends seat)

mark_ends : (drawn : Bool) → LastElse (tsumogiri_field drawn)
unfolding tsumogiri_field
mark_ends true = record { front = codes ",\"tsumogiri\":tru"; byte = 101; is = refl; other = λ e. omega (arith, e) }
mark_ends false = record { front = codes ",\"tsumogiri\":fals"; byte = 101; is = refl; other = λ e. omega (arith, e) }

tiles_end : (tiles : List Pai) → LastElse (consumed_field tiles)
unfolding consumed_field bracketed
tiles_end tiles = record {
  front = codes ",\"consumed\":" ++ (91 ∷ joined (map pai_text tiles));
  byte = 93;
  is = sym (append_assoc (codes ",\"consumed\":") (91 ∷ joined (map pai_text tiles)) (93 ∷ []));
  other = λ e. omega (arith, e);
}

-- A pass has one text; another answer has none, or one that ends otherwise.
abbrev TextEnds : Answer → Type 0
TextEnds answer =
    ((is_pass answer ≡ true) × (answer_text answer ≡ none_text))
    ⊎ ((is_pass answer ≡ false) × ((answer_text answer ≡ []) ⊎ EndsElse (answer_text answer)))

pass_text : (actor : Option ℕ) → answer_text (Pass actor) ≡ none_text
unfolding type_field
pass_text actor = refl

not_pass : (answer : Answer) → is_pass answer ≡ false → EndsElse (answer_text answer) → TextEnds answer
not_pass answer is e = inr (is, inr e)

text_ends : (answer : Answer) → TextEnds answer
text_ends Unread = inr (refl, inl refl)
text_ends (Pass actor) = inl (refl, pass_text actor)
text_ends (Discard actor tile drawn) =
    not_pass (Discard actor tile drawn) refl (braced _ (behind (type_field (codes "dahai") ++ actor_field actor ++ pai_field tile) (tsumogiri_field drawn) (mark_ends drawn)))
text_ends (Chi actor target tile a b) =
    not_pass (Chi actor target tile a b) refl
    (braced _ (behind (type_field (codes "chi") ++ actor_field actor ++ target_field target ++ pai_field tile) (consumed_field (a ∷ b ∷ [])) (tiles_end (a ∷ b ∷ []))))
text_ends (Pon actor target tile a b) =
    not_pass (Pon actor target tile a b) refl
    (braced _ (behind (type_field (codes "pon") ++ actor_field actor ++ target_field target ++ pai_field tile) (consumed_field (a ∷ b ∷ [])) (tiles_end (a ∷ b ∷ []))))
text_ends (OpenKan actor target tile a b c) =
    not_pass (OpenKan actor target tile a b c) refl
    (braced _ (behind (type_field (codes "daiminkan") ++ actor_field actor ++ target_field target ++ pai_field tile) (consumed_field (a ∷ b ∷ c ∷ [])) (tiles_end (a ∷ b ∷ c ∷ []))))
text_ends (ClosedKan actor a b c d) =
    not_pass (ClosedKan actor a b c d) refl
    (braced _ (behind (type_field (codes "ankan") ++ actor_field actor) (consumed_field (a ∷ b ∷ c ∷ d ∷ [])) (tiles_end (a ∷ b ∷ c ∷ d ∷ []))))
text_ends (AddedKan actor tile a b c) =
    not_pass (AddedKan actor tile a b c) refl
    (braced _ (behind (type_field (codes "kakan") ++ actor_field actor ++ pai_field tile) (consumed_field (a ∷ b ∷ c ∷ [])) (tiles_end (a ∷ b ∷ c ∷ []))))
text_ends (Reach actor) = not_pass (Reach actor) refl (braced _ (behind (type_field (codes "reach")) (actor_field actor) (actor_ends actor)))
text_ends (Win actor target tile) =
    not_pass (Win actor target tile) refl (braced _ (behind (type_field (codes "hora") ++ actor_field actor) (target_field target) (target_ends target)))
text_ends (NineKinds actor) = not_pass (NineKinds actor) refl (braced _ (behind (type_field (codes "ryukyoku")) (actor_field actor) (actor_ends actor)))

-- Lines

-- A list is the end of its line.
shape : (list : List Answer) (text : List ℕ) →
    line_with list text ≡ (take (length text - 2) text ++ opened) ++ (91 ∷ (joined (map answer_text list) ++ closed))
unfolding line_with possible_text bracketed
shape list text =
    ap (λ (t : List ℕ). take (length text - 2) text ++ (opened ++ (91 ∷ t))) (append_assoc (joined (map answer_text list)) (93 ∷ []) (125 ∷ 10 ∷ []))
    ∙ sym (append_assoc (take (length text - 2) text) opened (91 ∷ (joined (map answer_text list) ++ closed)))

-- Behind a mark that is no brace, a text without a pass doesn't show one.
ends_wrong : (text front answer : List ℕ) (mark : ℕ) → (mark ≡ 125 → ⊥) → text ≡ front ++ (mark ∷ (answer ++ closed)) → (answer ≡ []) ⊎ EndsElse answer → shows_pass text ≡ true → ⊥
ends_wrong text front answer mark no_brace is (inl none) shown =
    no_brace (refutes text front to_brace (take (length text - length pass_list) text) closed mark 125
    (is ∙ ap (λ (t : List ℕ). front ++ (mark ∷ (t ++ closed))) none) ((tells text).0 shown))
ends_wrong text front answer mark no_brace is (inr e) shown =
    e.other (refutes text (front ++ (mark ∷ e.front)) to_quote (take (length text - length pass_list) text) (125 ∷ closed) e.byte 34
    (is
    ∙ (ap (λ (t : List ℕ). front ++ (mark ∷ (t ++ closed))) e.is
    ∙ (ap (λ (t : List ℕ). front ++ (mark ∷ t)) (append_assoc e.front (e.byte ∷ 125 ∷ []) closed)
    ∙ sym (append_assoc front (mark ∷ e.front) (e.byte ∷ 125 ∷ closed)))))
    ((tells text).0 shown))

-- One answer.
one_shown : (answer : Answer) (text : List ℕ) → TextEnds answer → shows_pass (line_with (answer ∷ []) text) ≡ is_pass answer
one_shown answer text (inl pass) =
    (tells (line_with (answer ∷ []) text)).1 (take (length text - 2) text)
    (shape (answer ∷ []) text
    ∙ (ap (λ (t : List ℕ). (take (length text - 2) text ++ opened) ++ (91 ∷ ((t ++ []) ++ closed))) pass.1
    ∙ append_assoc (take (length text - 2) text) opened (91 ∷ ((none_text ++ []) ++ closed))))
    ∙ sym pass.0
one_shown answer text (inr no_pass) =
    never (line_with (answer ∷ []) text)
    (ends_wrong (line_with (answer ∷ []) text) (take (length text - 2) text ++ opened) (answer_text answer) 91 (λ e. omega (arith, e))
    (shape (answer ∷ []) text ∙ ap (λ (t : List ℕ). (take (length text - 2) text ++ opened) ++ (91 ∷ (t ++ closed))) (append-nil (answer_text answer))) no_pass.1)
    ∙ sym no_pass.0

-- More answers: a comma stands before the last.
record EndsWithOne (text : List ℕ) : Type 0 where
  front : List ℕ
  last : Answer
  is : text ≡ front ++ (44 ∷ answer_text last)

last_of : (head : List ℕ) (answer : Answer) (others : List Answer) → EndsWithOne (head ++ flat_map (λ (other : List ℕ). 44 ∷ other) (map answer_text (answer ∷ others)))
last_of head answer [] = record { front = head; last = answer; is = ap (λ (t : List ℕ). head ++ (44 ∷ t)) (append-nil (answer_text answer)) }
last_of head answer (next ∷ others) =
    let r = last_of (head ++ (44 ∷ answer_text answer)) next others in
    record {
      front = r.front;
      last = r.last;
      is = sym (append_assoc head (44 ∷ answer_text answer) (flat_map (λ (other : List ℕ). 44 ∷ other) (map answer_text (next ∷ others)))) ∙ r.is;
    }

more_shown : (first second : Answer) (others : List Answer) (text : List ℕ) → shows_pass (line_with (first ∷ second ∷ others) text) ≡ false
more_shown first second others text = never whole (by (text_ends r.last))
  where
    whole : List ℕ
    whole = line_with (first ∷ second ∷ others) text

    r : EndsWithOne (answer_text first ++ flat_map (λ (other : List ℕ). 44 ∷ other) (map answer_text (second ∷ others)))
    r = last_of (answer_text first) second others

    start : List ℕ
    start = (take (length text - 2) text ++ opened) ++ (91 ∷ r.front)

    ends : whole ≡ start ++ (44 ∷ (answer_text r.last ++ closed))
    ends =
        shape (first ∷ second ∷ others) text
        ∙ (ap (λ (t : List ℕ). (take (length text - 2) text ++ opened) ++ (91 ∷ (t ++ closed))) r.is
        ∙ (ap (λ (t : List ℕ). (take (length text - 2) text ++ opened) ++ (91 ∷ t)) (append_assoc r.front (44 ∷ answer_text r.last) closed)
        ∙ sym (append_assoc (take (length text - 2) text ++ opened) (91 ∷ r.front) (44 ∷ (answer_text r.last ++ closed)))))

    other_marks : ◌≡◌ {A = ℕ} 44 91 → ⊥
    other_marks e = omega (arith, e)

    by : TextEnds r.last → shows_pass whole ≡ true → ⊥
    by (inl pass) shown =
        other_marks (refutes whole start opened (take (length whole - length pass_list) whole) (none_text ++ closed) 44 91
        (ends ∙ ap (λ (t : List ℕ). start ++ (44 ∷ (t ++ closed))) pass.1) ((tells whole).0 shown))
    by (inr no_pass) shown = ends_wrong whole start (answer_text r.last) 44 (λ e. omega (arith, e)) ends no_pass.1 shown

-- So a line shows a pass alone exactly where its list is one.
shows_alone : (list : List Answer) (text : List ℕ) → shows_pass (line_with list text) ≡ is_pass_alone list
shows_alone [] text =
    never (line_with [] text)
    (ends_wrong (line_with [] text) (take (length text - 2) text ++ opened) [] 91 (λ e. omega (arith, e)) (shape [] text) (inl refl))
shows_alone (answer ∷ []) text = one_shown answer text (text_ends answer)
shows_alone (first ∷ second ∷ others) text = more_shown first second others text

-- The newest deed

-- The deeds before it, and the deed.
record IsBehind (deeds : List Deed) (k : ℕ) : Type 0 where
  others : List Deed
  newest : Deed
  all : deeds ≡ others ++ (newest ∷ [])
  at : k ≡ length others

newest_of : (deeds : List Deed) (k : ℕ) → k + 1 ≡ length deeds → IsBehind deeds k
newest_of [] k e = absurd (omega (arith, e))
newest_of (deed ∷ []) k e = record { others = []; newest = deed; all = refl; at = omega (arith, e) }
newest_of (deed ∷ next ∷ rest) zero e = absurd (omega (arith, e))
newest_of (deed ∷ next ∷ rest) (suc k) e =
    let r = newest_of (next ∷ rest) k (omega (arith, e)) in
    record { others = deed ∷ r.others; newest = r.newest; all = ap (λ (ds : List Deed). deed ∷ ds) r.all; at = ap suc r.at }

-- The line of the newest deed shows a pass alone exactly where that is all that the seat may answer.
pub newest_shows : (rules : Rules) (deeds : List Deed) (seat k : ℕ) → k + 1 ≡ length deeds → is_pass_alone (possible rules deeds seat) ≡ shows_pass (line_at rules deeds seat k)
newest_shows rules deeds seat k one =
    let r = newest_of deeds k one in
    subst (λ (ds : List Deed). is_pass_alone (possible rules ds seat) ≡ shows_pass (line_at rules ds seat k)) (sym r.all) (grown r.others r.newest r.at)
  where
    grown : (others : List Deed) (newest : Deed) → k ≡ length others →
        is_pass_alone (possible rules (others ++ (newest ∷ [])) seat) ≡ shows_pass (line_at rules (others ++ (newest ∷ [])) seat k)
    grown others newest at =
        let its : List ℕ = seat_line rules (others ++ (newest ∷ [])) seat newest in
        let same : line_at rules (others ++ (newest ∷ [])) seat k ≡ its =
        ap (λ (ls : List (List ℕ)). unwrap_or (slice_get ls k) []) (lines_for-more rules seat others newest)
        ∙ (ap (λ (n : ℕ). unwrap_or (slice_get (lines_for rules seat others ++ (its ∷ [])) n) []) (at ∙ sym (length-lines rules seat others))
        ∙ ap (λ (o : Option (List ℕ)). unwrap_or o []) (at_end (lines_for rules seat others) its)) in
        sym (ap shows_pass same ∙ shows_alone (possible rules (others ++ (newest ∷ [])) seat) (line (Seat seat) newest))

-- So what is kept of its list says it too.
pub kept_list : (kept : Result Bool AllocError) (rules : Rules) (deeds : List Deed) (seat k : ℕ) → k + 1 ≡ length deeds → IfOk kept (λ (is : Bool). is ≡ is_pass_alone (possible rules deeds seat))
    → IfOk kept (λ (is : Bool). is ≡ shows_pass (line_at rules deeds seat k))
kept_list (Ok is) rules deeds seat k one same = same ∙ newest_shows rules deeds seat k one
kept_list (Err error) rules deeds seat k one same = same
