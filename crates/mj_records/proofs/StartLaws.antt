-- The line of a start of a game is read again.
use Rattle.std.proofs.Common.{◌≡◌, ℕ, List, [], ◌∷◌, ◌++◌, length, Bool, true, false, refl, ap, ◌∙◌, lit<}
use Rattle.std.specs.Prelude.{Some, option_and_then, codes, not, nat_le, nat_lt, ◌==◌, ◌&&◌}
use Rattle.std.specs.List.{list_all}
use Rattle.std.specs.Str.{is_utf8}
use Rattle.std.proofs.lemmas.Fmt.{decimal_digit}
use Rattle.mj_bytes.specs.Parts.{has_byte}
use Rattle.mj_ports.specs.Names.{is_name}
use Rattle.mj_deeds.specs.declared.deed.Deed.TheVariants.{StartGame}
use Rattle.mj_deeds.specs.declared.deed.Viewer.TheVariants.{Record}
use Rattle.mj_forms.specs.Lines.{line, quoted, bracketed, start_game_line}
use Rattle.mj_records.specs.Inner.Fields.{quoted_at, and_rest}
use Rattle.mj_records.specs.Deeds.{deed_in, deed_by, name_of, name_field, start_game_in}
use Rattle.mj_records.specs.Laws.{GameStartsAreRead}
use Rattle.mj_records.proofs.Shapes.{group5, four_shape}
use Rattle.mj_records.proofs.FieldLaws.{not_true, behind_key, quoted_read}
use Rattle.mj_records.proofs.PointLaws.{and-parts}

-- a name has no quotation mark
plain_name : (name : List ℕ) → list_all (λ byte. nat_le 32 byte && not (byte == 34) && not (byte == 92)) name ≡ true → has_byte 34 name ≡ false
plain_name [] h = refl
plain_name (b ∷ bs) h =
    let p = and-parts (nat_le 32 b && not (b == 34) && not (b == 92)) (list_all (λ byte. nat_le 32 byte && not (byte == 34) && not (byte == 92)) bs) h in
    let q = and-parts (nat_le 32 b && not (b == 34)) (not (b == 92)) p.0 in
    let r = and-parts (nat_le 32 b) (not (b == 34)) q.0 in
    rw (not_true (b == 34) r.1, plain_name bs p.1)

no_quote_in : (name : List ℕ) → is_name name ≡ true → has_byte 34 name ≡ false
unfolding is_name
no_quote_in name h =
    let plain : List ℕ → Bool = λ text. list_all (λ byte. nat_le 32 byte && not (byte == 34) && not (byte == 92)) text in
    let p = and-parts (nat_lt 0 (length name) && nat_le (length name) 64 && list_all (λ byte. nat_le 32 byte && not (byte == 34) && not (byte == 92)) name) (is_utf8 name) h in
    let q = and-parts (nat_lt 0 (length name) && nat_le (length name) 64) (list_all (λ byte. nat_le 32 byte && not (byte == 34) && not (byte == 92)) name) p.0 in
    plain_name name q.1

named : (name rest : List ℕ) → is_name name ≡ true → and_rest name_of (name, rest) ≡ Some (name, rest)
named name rest h = rw h

pub name_read : (key rest name : List ℕ) → is_name name ≡ true → name_field key (key ++ (quoted name ++ rest)) ≡ Some (name, rest)
unfolding name_field
name_read key rest name h =
    ap (λ o. option_and_then (and_rest name_of) (option_and_then quoted_at o)) (behind_key key (quoted name ++ rest))
    ∙ ap (option_and_then (and_rest name_of)) (quoted_read name rest (no_quote_in name h)) ∙ named name rest h

start_game_fields : (a b c d rest : List ℕ) → is_name a ≡ true → is_name b ≡ true → is_name c ≡ true → is_name d ≡ true →
    start_game_in (codes ",\"id\":0,\"names\":[" ++
    (quoted a ++ (codes "," ++ (quoted b ++ (codes "," ++ (quoted c ++ (codes "," ++ (quoted d ++ rest)))))))) ≡ Some
    (StartGame (record { first = a; second = b; third = c; fourth = d }))
unfolding start_game_in
start_game_fields a b c d rest ha hb hc hd =
    rw (
      name_read (codes ",\"id\":0,\"names\":[") (codes "," ++ (quoted b ++ (codes "," ++ (quoted c ++ (codes "," ++ (quoted d ++ rest)))))) a ha,
      name_read (codes ",") (codes "," ++ (quoted c ++ (codes "," ++ (quoted d ++ rest)))) b hb,
      name_read (codes ",") (codes "," ++ (quoted d ++ rest)) c hc,
      name_read (codes ",") rest d hd,
    )

pub game_starts : (a b c d : List ℕ) → is_name a ≡ true → is_name b ≡ true → is_name c ≡ true → is_name d ≡ true →
    deed_in (line Record (StartGame (record { first = a; second = b; third = c; fourth = d }))) ≡ Some (StartGame (record { first = a; second = b; third = c; fourth = d }))
unfolding start_game_line deed_in deed_by quoted_at
game_starts a b c d ha hb hc hd =
    ap (λ zero. deed_in (codes "{\"type\":\"start_game\",\"id\":" ++ zero ++ codes ",\"names\":" ++ bracketed (quoted a ∷ quoted b ∷ quoted c ∷ quoted
    d ∷ []) ++ codes "}\n")) (decimal_digit 0 (lit< tt))
    ∙ ap deed_in (group5 (codes "{\"type\":\"start_game\",\"id\":") (codes "0") (codes ",\"names\":") (bracketed (quoted a ∷ quoted b ∷ quoted c ∷ quoted d ∷ [])) (codes "}\n"))
    ∙ ap (λ names. start_game_in (codes ",\"id\":0,\"names\":" ++ names)) (four_shape (quoted a) (quoted b) (quoted c) (quoted d) (codes "}\n"))
    ∙ start_game_fields a b c d (93 ∷ codes "}\n") ha hb hc hd

pub game_starts_are_read : GameStartsAreRead
game_starts_are_read = record { starts = game_starts }
