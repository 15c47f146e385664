-- What the lines of a kept game come to.
use Rattle.std.proofs.Common.{◌≡◌, ℕ, ◌+◌, ◌==◌, ◌≤◌, ◌&&◌, not, Bool, true, false, List, [], ◌∷◌, ◌++◌, length, refl, ap, sym, ◌∙◌, arith, append-nil, append_assoc, rules}
use Rattle.std.specs.Prelude.{Option, Some, None, if◌then◌else◌, is_some, option_map, nat_lt, bytes_eq, codes, ◌^◌}
use Rattle.std.specs.Option.{option_map_or}
use Rattle.std.proofs.lemmas.Bool.Decides.{nat_tests}
use Rattle.mj_bytes.specs.Parts.{has_byte, parted, fields}
use Rattle.mj_bytes.specs.Numbers.{decimal_of}
use Rattle.mj_bytes.proofs.PartLaws.{has_byte-head}
use Rattle.mj_ports.specs.declared.entry.Entry.{Entry}
use Rattle.mj_ports.specs.declared.entry.Entry.TheVariants.{Said, Gone, Expired}
use Rattle.mj_wall.specs.declared.setting.Rules.{Rules}
use Rattle.mj_wall.specs.Places.{is_wall}
use Rattle.mj_forms.specs.AnswerForms.{answer_of, join_of}
use Rattle.mj_forms.specs.Headers.{rules_of, tiles_in}
use Rattle.mj_deeds.specs.declared.answer.Answer.{Answer}
use Rattle.mj_history.specs.Legal.{can_say, can_expire}
use Rattle.mj_history.specs.Sitting.{author_at, placing, entries_of_placing}
use Rattle.mj_history.specs.Arrivals.{ArrivalForm, Header, WallOf, Sit, Say, Leave, Expire, NoForm, form_of, form_by, sit_form, say_form, expire_form, numbers_in}
use Rattle.mj_history.specs.Arrivals.{is_short, Intake, Arrival, Leads, Bad, at_end, intake_on, intake_from, arrives, first_line, behind_header, header_arrives}
use Rattle.mj_history.specs.Arrivals.{wall_arrives, sit_arrives, say_arrives, gone_arrives, expiry_arrives, with_entries, now_of, setting_of}
use Rattle.mj_journal.specs.Calls.{IsLine}

-- One list begins with another.
pub record Begins {A : Type 0} (front all : List A) : Type 0 where
  pub rest : List A
  pub is : all ≡ front ++ rest

pub begins-itself : {A : Type 0} (xs : List A) → Begins xs xs
begins-itself xs = record { rest = []; is = sym (append-nil xs) }

pub begins-on : {A : Type 0} (xs ys zs : List A) → Begins xs ys → Begins ys zs → Begins xs zs
begins-on xs ys zs p q = record { rest = p.rest ++ q.rest; is = q.is ∙ ap (λ (l : List _). l ++ q.rest) p.is ∙ append_assoc xs p.rest q.rest }

-- An arrival takes no entry away.
abbrev pub Extends : Intake → Arrival → Type 0
Extends reading (Leads next) = Begins reading.entries next.entries
Extends reading Bad = Unit {0}

extends-more : (reading : Intake) (entries : List (Entry Answer)) → Extends reading (Leads (with_entries reading entries))
extends-more reading entries = record { rest = entries; is = refl }

extends-if : (reading : Intake) (b : Bool) (arrival : Arrival) → Extends reading arrival → Extends reading (if b then arrival else Bad)
extends-if reading true arrival h = h
extends-if reading false arrival h = record {}

extends-unless : (reading : Intake) (b : Bool) (arrival : Arrival) → Extends reading arrival → Extends reading (if b then Bad else arrival)
extends-unless reading true arrival h = record {}
extends-unless reading false arrival h = h

extends-by : (reading : Intake) (o : Option ℕ) (f : ℕ → Arrival) → ((n : ℕ) → Extends reading (f n)) → Extends reading (option_map_or f o Bad)
extends-by reading None f h = record {}
extends-by reading (Some n) f h = h n

extends-behind : (reading : Intake) (form : ArrivalForm) → Extends reading (behind_header reading form)
unfolding wall_arrives sit_arrives say_arrives gone_arrives expiry_arrives
extends-behind reading (Header rules) = record {}
extends-behind reading (WallOf tiles) =
    extends-if reading (is_wall (setting_of reading).rules.red tiles && not reading.begun && nat_lt (length reading.walls) 200)
    (Leads (record reading { walls = reading.walls ++ tiles ∷ [] })) (begins-itself reading.entries)
extends-behind reading (Sit text) =
    let entries = entries_of_placing 1 (join_of text) (placing (now_of reading) (join_of text)) in
    extends-unless reading (length reading.walls == 0) (Leads (with_entries reading entries)) (extends-more reading entries)
extends-behind reading (Say seat text) = extends-by reading (author_at (now_of reading) seat) _ (λ author. says author)
  where
    says : (author : ℕ) → Extends reading (if can_say (now_of reading) author seat then Leads (with_entries reading (Said author seat (answer_of text) ∷ [])) else Bad)
    says author =
        extends-if reading (can_say (now_of reading) author seat) (Leads (with_entries reading (Said author seat (answer_of text) ∷ [])))
        (extends-more reading (Said author seat (answer_of text) ∷ []))
extends-behind reading (Leave seat) = extends-by reading (author_at (now_of reading) seat) _ (λ author. extends-more reading (Gone author seat ∷ []))
extends-behind reading (Expire window t1 t2) =
    let entries = if can_expire (setting_of reading).rules.limit (now_of reading).deeds window t1 t2 then Expired 0 window t1 t2 ∷ [] else [] in
    extends-unless reading (length reading.walls == 0) (Leads (with_entries reading entries)) (extends-more reading entries)
extends-behind reading NoForm = record {}

extends-first : (reading : Intake) (form : ArrivalForm) → Extends reading (first_line reading form)
unfolding header_arrives
extends-first reading (Header rules) = begins-itself reading.entries
extends-first reading (WallOf tiles) = record {}
extends-first reading (Sit text) = record {}
extends-first reading (Say seat text) = record {}
extends-first reading (Leave seat) = record {}
extends-first reading (Expire window t1 t2) = record {}
extends-first reading NoForm = record {}

pub extends : (reading : Intake) (text : List ℕ) → Extends reading (arrives reading text)
unfolding arrives
extends reading text = by (is_some reading.rules)
  where
    by : (b : Bool) → Extends reading (if b then behind_header reading (form_of text) else first_line reading (form_of text))
    by true = extends-behind reading (form_of text)
    by false = extends-first reading (form_of text)

at-end-begins : (reading : Intake) (number : ℕ) (rest : List ℕ) → Begins reading.entries (at_end reading number rest).reading.entries
at-end-begins reading number [] = begins-itself reading.entries
at-end-begins reading number (byte ∷ bytes) = begins-itself reading.entries

-- Lines that are heard take no entry away.
pub heard-begins : (reading : Intake) (number : ℕ) (lines : List (List ℕ)) (rest : List ℕ) → Begins reading.entries (intake_from reading number lines rest).reading.entries
heard-begins reading number [] rest = at-end-begins reading number rest
heard-begins reading number (text ∷ texts) rest = by (λ next. heard-begins next (number + 1) texts rest) (arrives reading text) (extends reading text)
  where
    by : ((next : Intake) → Begins next.entries (intake_from next (number + 1) texts rest).reading.entries) → (arrival : Arrival) →
        Extends reading arrival → Begins reading.entries (intake_on arrival (λ next. intake_from next (number + 1) texts rest) reading
        number).reading.entries
    by more Bad h = begins-itself reading.entries
    by more (Leads next) h = begins-on reading.entries next.entries (intake_from next (number + 1) texts rest).reading.entries h (more next)

-- The line of a player within a line without a newline.
behind-plain : (c : ℕ) (text : List ℕ) (parts : List ℕ × List ℕ) → parted text ≡ Some parts → has_byte c text ≡ false → has_byte c parts.1 ≡ false
behind-plain c [] parts p h = absurd (cc p)
behind-plain c (b ∷ bs) parts p h = by (λ q e. behind-plain c bs q e (has_byte-head c b bs h).1) (b == 32) refl
  where
    tail : has_byte c bs ≡ false
    tail = (has_byte-head c b bs h).1

    rest : ((q : List ℕ × List ℕ) → parted bs ≡ Some q → has_byte c q.1 ≡ false) → (o : Option (List ℕ × List ℕ)) → parted bs ≡ o →
        option_map (λ (q : List ℕ × List ℕ). (b ∷ q.0, q.1)) o ≡ Some parts → has_byte c parts.1 ≡ false
    rest more None e k = absurd (cc k)
    rest more (Some q) e k = let same : q.1 ≡ parts.1 = ap (λ (o : Option (List ℕ × List ℕ)). option_map_or (λ (r : List ℕ × List ℕ). r.1) o []) k in ap (has_byte c) (sym same) ∙ more q e

    by : ((q : List ℕ × List ℕ) → parted bs ≡ Some q → has_byte c q.1 ≡ false) → (t : Bool) → (b == 32) ≡ t → has_byte c parts.1 ≡ false
    by more true e =
        let k : Some ([], bs) ≡ Some parts = sym (ap (λ (t : Bool). if t then Some ([], bs) else option_map (λ (q : List ℕ × List ℕ). (b ∷ q.0, q.1)) (parted bs)) e) ∙ p in
        let same : bs ≡ parts.1 = ap (λ (o : Option (List ℕ × List ℕ)). option_map_or (λ (r : List ℕ × List ℕ). r.1) o []) k in ap (has_byte c) (sym same) ∙ tail
    by more false e = rest more (parted bs) refl (sym (ap (λ (t : Bool). if t then Some ([], bs) else option_map (λ (q : List ℕ × List ℕ). (b ∷ q.0, q.1)) (parted bs)) e) ∙ p)

-- The lines that a form may hold.
abbrev pub HasLine : ArrivalForm → Type 0
HasLine (Sit text) = IsLine text
HasLine (Say seat text) = IsLine text
HasLine form = Unit {0}

short-so : (text : List ℕ) → is_short text ≡ true → length text ≤ 4095
short-so text h = grind (arith, nat_tests, h)

sit-has : (text : List ℕ) → has_byte 10 text ≡ false → HasLine (sit_form text)
sit-has text plain = by (is_short text) refl
  where
    by : (b : Bool) → is_short text ≡ b → HasLine (if b then Sit text else NoForm)
    by true e = record { short = short-so text e; plain = plain }
    by false e = record {}

say-has : (o : Option (List ℕ × List ℕ)) → ((parts : List ℕ × List ℕ) → o ≡ Some parts → has_byte 10 parts.1 ≡ false) → HasLine (say_form o)
say-has None plain = record {}
say-has (Some parts) plain = by_seat (decimal_of parts.0)
  where
    by : (seat : ℕ) (b : Bool) → is_short parts.1 ≡ b → HasLine (if b then Say seat parts.1 else NoForm)
    by seat true e = record { short = short-so parts.1 e; plain = plain parts refl }
    by seat false e = record {}

    by_seat : (o : Option ℕ) → HasLine (option_map_or (λ seat. if is_short parts.1 then Say seat parts.1 else NoForm) o NoForm)
    by_seat None = record {}
    by_seat (Some seat) = by seat (is_short parts.1) refl

choose : (b : Bool) (x y : ArrivalForm) → HasLine x → HasLine y → HasLine (if b then x else y)
choose true x y h k = h
choose false x y h k = k

header-has : (o : Option Rules) → HasLine (option_map_or Header o NoForm)
header-has None = record {}
header-has (Some rules) = record {}

wall-has : (o : Option (List ℕ)) → HasLine (option_map_or WallOf o NoForm)
wall-has None = record {}
wall-has (Some tiles) = record {}

leave-has : (o : Option ℕ) → HasLine (option_map_or Leave o NoForm)
leave-has None = record {}
leave-has (Some seat) = record {}

expire-has : (o : Option (List ℕ)) → HasLine (expire_form o)
expire-has None = record {}
expire-has (Some []) = record {}
expire-has (Some (a ∷ [])) = record {}
expire-has (Some (a ∷ b ∷ [])) = record {}
expire-has (Some (window ∷ t1 ∷ t2 ∷ [])) = choose (nat_lt window (2 ^ 32)) (Expire window t1 t2) NoForm (record {}) (record {})
expire-has (Some (a ∷ b ∷ c ∷ d ∷ ds)) = record {}

by-has : (word text : List ℕ) → has_byte 10 text ≡ false → HasLine (form_by word text)
unfolding form_by
by-has word text plain =
    choose (bytes_eq word (codes "game")) _ _ (header-has (rules_of (fields text)))
    (choose (bytes_eq word (codes "wall")) _ _ (wall-has (tiles_in (fields text)))
    (choose (bytes_eq word (codes "sit")) _ _ (sit-has text plain)
    (choose (bytes_eq word (codes "say")) _ _ (say-has (parted text) (λ parts e. behind-plain 10 text parts e plain))
    (choose (bytes_eq word (codes "gone")) _ _ (leave-has (decimal_of text))
    (choose (bytes_eq word (codes "expire")) _ NoForm (expire-has (numbers_in (fields text))) (record {}))))))

-- The line of a player in a line without a newline has none, and is short.
pub line-has : (line : List ℕ) → has_byte 10 line ≡ false → HasLine (form_of line)
unfolding form_of
line-has line plain = by (parted line) refl
  where
    by : (o : Option (List ℕ × List ℕ)) → parted line ≡ o → HasLine (option_map_or (λ parts. form_by parts.0 parts.1) o NoForm)
    by None e = record {}
    by (Some parts) e = by-has parts.0 parts.1 (behind-plain 10 line parts e plain)
