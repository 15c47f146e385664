-- A tile more, and the same hand without it again.
use Rattle.std.proofs.Common.{ℕ, ◌≡◌, ◌<◌, ◌+◌, ◌-◌, cond, eqb, List, length, get_or, sum, replicate, refl, sym, ◌∙◌, ap, subst, arith}
use Rattle.std.proofs.lemmas.Bool.{eq-eqb}
use Rattle.std.proofs.lemmas.List.{ext_get_or, length-set}
use Rattle.mj_tiles.specs.Counts.{NoFifth}
use Rattle.mj_readings.specs.Tests.{one_more}
use Rattle.mj_shanten.specs.Exchanges.{one_less}
use Rattle.mj_shanten.specs.Room.{IsHand, IsRoom}
use Rattle.mj_shanten.specs.Walked.{Tiles}
use Rattle.mj_shanten.proofs.Path.{one_less_at, one_more_at}
use Rattle.mj_shanten.proofs.Closed.{closed_room, closed_hand}

back_again : (counts : List ℕ) (kind : ℕ) → kind < length counts → one_less (one_more counts kind) kind ≡ counts
back_again counts kind inside =
    ext_get_or 0 (one_less (one_more counts kind) kind) counts (length-set (one_more counts kind) kind _ ∙ length-set counts kind _)
    (λ k low. (let s = length-set counts kind (get_or counts kind 0 + 1) in
    let a = one_less_at (one_more counts kind) kind k (omega arith) in
    let b = one_more_at counts kind k inside in
    omega arith))

pub more_held : (counts more : List ℕ) (kind : ℕ) (suits : Tiles) → length counts ≡ 34 → kind < 34 → more ≡ one_more counts kind
    → suits ≡ record { counts = more; room = replicate 34 4 } → 0 < get_or suits.counts kind 0
more_held counts more kind suits size low is_more is =
    let a : get_or suits.counts kind 0 ≡ get_or (one_more counts kind) kind 0 = ap (λ (t : Tiles). get_or t.counts kind 0) is ∙ ap (λ m. get_or m kind 0) is_more in
    let b = one_more_at counts kind kind (omega arith) in
    let c : ◌≡◌ {A = ℕ} (cond (eqb kind kind) 1 0) 1 = ap (λ b. cond b 1 0) (eq-eqb kind kind refl) in
    omega arith

pub same_hand : (counts more : List ℕ) (kind total : ℕ) (suits again : Tiles) → total ≡ sum counts → total ≡ 13 → length counts ≡ 34 → NoFifth counts → kind < 34 → more ≡ one_more counts kind
    → suits ≡ record { counts = more; room = replicate 34 4 } → again ≡ record { counts = one_less suits.counts kind; room = suits.room } → IsHand again.counts again.room 0
same_hand counts more kind total suits again all thirteen size few low is_more is is_again =
    let held : again.counts ≡ counts = ap (λ (t : Tiles). t.counts) is_again ∙ ap (λ (t : Tiles). one_less t.counts kind) is ∙ ap (λ m. one_less m kind) is_more
    ∙ back_again counts kind (omega arith) in
    let room : again.room ≡ replicate 34 4 = ap (λ (t : Tiles). t.room) is_again ∙ ap (λ (t : Tiles). t.room) is in
    subst (λ c. IsHand c again.room 0) (sym held) (closed_hand counts again.room total all thirteen few room)

pub no_melds : (counts : List ℕ) (suits : Tiles) → suits ≡ record { counts = counts; room = replicate 34 4 } → IsRoom suits.room 0
no_melds counts suits is = closed_room suits.room (ap (λ (t : Tiles). t.room) is)
