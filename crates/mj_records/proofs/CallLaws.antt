-- The lines of calls, kans, accepted reaches and the end of a game are read again.
use Rattle.std.proofs.Common.{◌≡◌, ℕ, ◌<◌, List, [], ◌∷◌, ◌++◌, true, refl, ap, ◌∙◌}
use Rattle.std.specs.Prelude.{Some, ℤ, option_map, option_and_then, codes, decimal, map}
use Rattle.mj_deeds.specs.declared.bid.Bid.TheVariants as bids
use Rattle.mj_deeds.specs.Bids.{call_of_bid}
use Rattle.mj_deeds.specs.declared.deed.Deed.TheVariants.{Chi, Pon, OpenKan, ClosedKan, AddedKan, EndGame}
use Rattle.mj_deeds.specs.declared.deed.Viewer.TheVariants.{Record}
use Rattle.mj_forms.specs.Lines.{line, quoted, quoted_tile, bracketed, points_text, call_object, closed_kan_line, added_kan_line, end_game_line}
use Rattle.mj_history.specs.Records.{are_points}
use Rattle.mj_records.specs.Inner.Fields.{quoted_at}
use Rattle.mj_records.specs.Deeds.{deed_in, deed_by, small_by, call_in, call_by, closed_kan_in, added_kan_in, end_game_in}
use Rattle.mj_records.specs.Laws.{CallsAreRead}
use Rattle.mj_records.proofs.Shapes.{group5, group7, group12, two_shape, three_shape, four_shape}
use Rattle.mj_records.proofs.FieldLaws.{byte_read, word_read, tile_field_read}
use Rattle.mj_records.proofs.PointLaws.{points_field_read}

-- the fields of a call up to its second own tile
pub call_fields : (kind : List ℕ) (seat target tile a b : ℕ) (rest : List ℕ) → seat < 256 → target < 256 → tile < 37 → a < 37 → b < 37 →
    call_in kind (codes ",\"actor\":" ++ (decimal seat ++
    (codes ",\"target\":" ++ (decimal target ++
    (codes ",\"pai\":" ++ (quoted_tile tile ++ (codes ",\"consumed\":[" ++ (quoted_tile a ++ (codes "," ++ (quoted_tile b ++ rest)))))))))) ≡
    call_by kind seat target tile a b rest
unfolding call_in
call_fields kind seat target tile a b rest hs hg ht ha hb =
    rw (
      byte_read (codes ",\"actor\":") (codes ",\"target\":" ++
          (decimal target ++ (codes ",\"pai\":" ++
          (quoted_tile tile ++ (codes ",\"consumed\":[" ++ (quoted_tile a ++ (codes "," ++ (quoted_tile b ++ rest)))))))) seat hs refl,
      byte_read (codes ",\"target\":") (codes ",\"pai\":" ++ (quoted_tile tile ++ (codes ",\"consumed\":[" ++ (quoted_tile a ++ (codes "," ++ (quoted_tile b ++ rest)))))) target hg refl,
      tile_field_read (codes ",\"pai\":") (codes ",\"consumed\":[" ++ (quoted_tile a ++ (codes "," ++ (quoted_tile b ++ rest)))) tile ht,
      tile_field_read (codes ",\"consumed\":[") (codes "," ++ (quoted_tile b ++ rest)) a ha,
      tile_field_read (codes ",") rest b hb,
    )

-- what stands after the type of a call
abbrev behind_type : ℕ → ℕ → ℕ → List ℕ → List ℕ
behind_type seat target tile own = codes ",\"actor\":" ++ (decimal seat ++ (codes ",\"target\":" ++ (decimal target ++ (codes ",\"pai\":" ++ (quoted_tile tile ++ (codes ",\"consumed\":" ++ own))))))

pub call_text : (type rest : List ℕ) (seat target tile : ℕ) (own : List ℕ) → call_object type seat target tile own ++ rest ≡ codes "{\"type\":" ++
    (quoted type ++ behind_type seat target tile (bracketed (map quoted_tile own) ++ (codes "}" ++ rest)))
unfolding call_object
call_text type rest seat target tile own =
    group12 (codes "{\"type\":") (quoted type) (codes ",\"actor\":") (decimal seat) (codes ",\"target\":") (decimal target) (codes ",\"pai\":")
    (quoted_tile tile) (codes ",\"consumed\":") (bracketed (map quoted_tile own)) (codes "}") rest

pub two_tiles : (kind : List ℕ) (seat target tile a b : ℕ) (rest : List ℕ) → seat < 256 → target < 256 → tile < 37 → a < 37 → b < 37 →
    call_in kind (behind_type seat target tile (bracketed (map quoted_tile (a ∷ b ∷ [])) ++ rest)) ≡ call_by kind seat target tile a b (93 ∷ rest)
two_tiles kind seat target tile a b rest hs hg ht ha hb =
    ap (λ own. call_in kind (behind_type seat target tile own)) (two_shape (quoted_tile a) (quoted_tile b) rest) ∙ call_fields kind seat target tile a b (93 ∷ rest) hs hg ht ha hb

pub three_tiles : (kind : List ℕ) (seat target tile a b c : ℕ) (rest : List ℕ) → seat < 256 → target < 256 → tile < 37 → a < 37 → b < 37 →
    call_in kind (behind_type seat target tile (bracketed (map quoted_tile (a ∷ b ∷ c ∷ [])) ++ rest)) ≡ call_by kind seat target tile a b (codes "," ++ (quoted_tile c ++ (93 ∷ rest)))
three_tiles kind seat target tile a b c rest hs hg ht ha hb =
    ap (λ own. call_in kind (behind_type seat target tile own)) (three_shape (quoted_tile a) (quoted_tile b) (quoted_tile c) rest)
    ∙ call_fields kind seat target tile a b (codes "," ++ (quoted_tile c ++ (93 ∷ rest))) hs hg ht ha hb

pub third : (seat target tile a b c : ℕ) (rest : List ℕ) → c < 37 → call_by (codes "daiminkan") seat target tile a b (codes "," ++ (quoted_tile c ++ rest)) ≡ Some (bids.OpenKan seat target tile a b c)
third seat target tile a b c rest hc = ap (option_map (λ (x : ℕ × List ℕ). bids.OpenKan seat target tile a b x.0)) (tile_field_read (codes ",") rest c hc)

chis : (seat target tile a b : ℕ) → seat < 256 → target < 256 → tile < 37 → a < 37 → b < 37 → deed_in (line Record (Chi seat target tile a b)) ≡ Some (Chi seat target tile a b)
unfolding deed_in deed_by small_by quoted_at
chis seat target tile a b hs hg ht ha hb =
    ap deed_in (call_text (codes "chi") (codes "\n") seat target tile (a ∷ b ∷ []))
    ∙ ap (option_and_then call_of_bid) (two_tiles (codes "chi") seat target tile a b (codes "}" ++ codes "\n") hs hg ht ha hb)

pons : (seat target tile a b : ℕ) → seat < 256 → target < 256 → tile < 37 → a < 37 → b < 37 → deed_in (line Record (Pon seat target tile a b)) ≡ Some (Pon seat target tile a b)
unfolding deed_in deed_by small_by quoted_at
pons seat target tile a b hs hg ht ha hb =
    ap deed_in (call_text (codes "pon") (codes "\n") seat target tile (a ∷ b ∷ []))
    ∙ ap (option_and_then call_of_bid) (two_tiles (codes "pon") seat target tile a b (codes "}" ++ codes "\n") hs hg ht ha hb)

open_kans : (seat target tile a b c : ℕ) → seat < 256 → target < 256 → tile < 37 → a < 37 → b < 37 → c < 37 →
    deed_in (line Record (OpenKan seat target tile a b c)) ≡ Some (OpenKan seat target tile a b c)
unfolding deed_in deed_by small_by quoted_at
open_kans seat target tile a b c hs hg ht ha hb hc =
    ap deed_in (call_text (codes "daiminkan") (codes "\n") seat target tile (a ∷ b ∷ c ∷ []))
    ∙ ap (option_and_then call_of_bid)
    (three_tiles (codes "daiminkan") seat target tile a b c (codes "}" ++ codes "\n") hs hg ht ha hb ∙ third seat target tile a b c (93 ∷ (codes "}" ++ codes "\n")) hc)

closed_kan_fields : (seat a b c d : ℕ) (rest : List ℕ) → seat < 256 → a < 37 → b < 37 → c < 37 → d < 37 →
    closed_kan_in (codes ",\"actor\":" ++ (decimal seat ++
    (codes ",\"consumed\":[" ++ (quoted_tile a ++
    (codes "," ++ (quoted_tile b ++ (codes "," ++ (quoted_tile c ++ (codes "," ++ (quoted_tile d ++ rest)))))))))) ≡ Some (ClosedKan seat a b c d)
unfolding closed_kan_in
closed_kan_fields seat a b c d rest hs ha hb hc hd =
    rw (
      byte_read (codes ",\"actor\":") (codes ",\"consumed\":[" ++
          (quoted_tile a ++ (codes "," ++ (quoted_tile b ++ (codes "," ++ (quoted_tile c ++ (codes "," ++ (quoted_tile d ++ rest)))))))) seat hs refl,
      tile_field_read (codes ",\"consumed\":[") (codes "," ++ (quoted_tile b ++ (codes "," ++ (quoted_tile c ++ (codes "," ++ (quoted_tile d ++ rest)))))) a ha,
      tile_field_read (codes ",") (codes "," ++ (quoted_tile c ++ (codes "," ++ (quoted_tile d ++ rest)))) b hb,
      tile_field_read (codes ",") (codes "," ++ (quoted_tile d ++ rest)) c hc,
      tile_field_read (codes ",") rest d hd,
    )

closed_kans : (seat a b c d : ℕ) → seat < 256 → a < 37 → b < 37 → c < 37 → d < 37 → deed_in (line Record (ClosedKan seat a b c d)) ≡ Some (ClosedKan seat a b c d)
unfolding closed_kan_line deed_in deed_by small_by quoted_at
closed_kans seat a b c d hs ha hb hc hd =
    ap deed_in (group5 (codes "{\"type\":\"ankan\",\"actor\":") (decimal seat) (codes ",\"consumed\":") (bracketed (map quoted_tile (a ∷ b ∷ c ∷ d ∷ []))) (codes "}\n"))
    ∙ ap (λ own. closed_kan_in (codes ",\"actor\":" ++ (decimal seat ++ (codes ",\"consumed\":" ++ own)))) (four_shape (quoted_tile a) (quoted_tile b) (quoted_tile c) (quoted_tile d) (codes "}\n"))
    ∙ closed_kan_fields seat a b c d (93 ∷ codes "}\n") hs ha hb hc hd

added_kan_fields : (seat tile a b c : ℕ) (rest : List ℕ) → seat < 256 → tile < 37 → a < 37 → b < 37 → c < 37 →
    added_kan_in (codes ",\"actor\":" ++ (decimal seat ++
    (codes ",\"pai\":" ++ (quoted_tile tile ++
    (codes ",\"consumed\":[" ++ (quoted_tile a ++ (codes "," ++ (quoted_tile b ++ (codes "," ++ (quoted_tile c ++ rest)))))))))) ≡ Some
    (AddedKan seat tile a b c)
unfolding added_kan_in
added_kan_fields seat tile a b c rest hs ht ha hb hc =
    rw (
      byte_read (codes ",\"actor\":") (codes ",\"pai\":" ++
          (quoted_tile tile ++ (codes ",\"consumed\":[" ++
          (quoted_tile a ++ (codes "," ++ (quoted_tile b ++ (codes "," ++ (quoted_tile c ++ rest)))))))) seat hs refl,
      tile_field_read (codes ",\"pai\":") (codes ",\"consumed\":[" ++ (quoted_tile a ++ (codes "," ++ (quoted_tile b ++ (codes "," ++ (quoted_tile c ++ rest)))))) tile ht,
      tile_field_read (codes ",\"consumed\":[") (codes "," ++ (quoted_tile b ++ (codes "," ++ (quoted_tile c ++ rest)))) a ha,
      tile_field_read (codes ",") (codes "," ++ (quoted_tile c ++ rest)) b hb,
      tile_field_read (codes ",") rest c hc,
    )

added_kans : (seat tile a b c : ℕ) → seat < 256 → tile < 37 → a < 37 → b < 37 → c < 37 → deed_in (line Record (AddedKan seat tile a b c)) ≡ Some (AddedKan seat tile a b c)
unfolding added_kan_line deed_in deed_by small_by quoted_at
added_kans seat tile a b c hs ht ha hb hc =
    ap deed_in (group7 (codes "{\"type\":\"kakan\",\"actor\":") (decimal seat) (codes ",\"pai\":") (quoted_tile tile) (codes ",\"consumed\":")
    (bracketed (map quoted_tile (a ∷ b ∷ c ∷ []))) (codes "}\n"))
    ∙ ap (λ own. added_kan_in (codes ",\"actor\":" ++ (decimal seat ++ (codes ",\"pai\":" ++ (quoted_tile tile ++ (codes ",\"consumed\":" ++ own))))))
    (three_shape (quoted_tile a) (quoted_tile b) (quoted_tile c) (codes "}\n"))
    ∙ added_kan_fields seat tile a b c (93 ∷ codes "}\n") hs ht ha hb hc

end_game_fields : (points : List ℤ) (deposits : ℕ) → are_points points ≡ true → deposits < 4294967296 →
    end_game_in (codes ",\"scores\":" ++ (points_text points ++ (codes ",\"kyotaku\":" ++ (decimal deposits ++ codes "}\n")))) ≡ Some
    (EndGame points deposits)
unfolding end_game_in
end_game_fields points deposits hp hd =
    rw (points_field_read (codes ",\"scores\":") (codes ",\"kyotaku\":" ++ (decimal deposits ++ codes "}\n")) points hp, word_read (codes ",\"kyotaku\":") (codes "}\n") deposits hd refl)

end_games : (points : List ℤ) (deposits : ℕ) → are_points points ≡ true → deposits < 4294967296 → deed_in (line Record (EndGame points deposits)) ≡ Some (EndGame points deposits)
unfolding end_game_line deed_in deed_by small_by quoted_at
end_games points deposits hp hd =
    ap deed_in (group5 (codes "{\"type\":\"end_game\",\"scores\":") (points_text points) (codes ",\"kyotaku\":") (decimal deposits) (codes "}\n")) ∙ end_game_fields points deposits hp hd

pub calls_are_read : CallsAreRead
calls_are_read = record { chis = chis; pons = pons; open_kans = open_kans; closed_kans = closed_kans; added_kans = added_kans; end_games = end_games }
