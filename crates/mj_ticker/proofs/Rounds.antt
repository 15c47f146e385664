-- A round of the ticker: what it does at one table leaves what it has come to at the others.
use Rattle.std.proofs.Common.{◌≡◌, inl, inr, ℕ, ◌+◌, ◌<◌, ◌≤◌, Bool, true, false, true≢false, ◌&&◌, nat_lt, if◌then◌else◌, List, length, refl, sym, ap, ◌∙◌, subst, arith, set, get_or}
use Rattle.std.specs.Prelude.{Option, Some, slice_get}
use Rattle.std.proofs.lemmas.Bool.Decides.{eqb_tells}
use Rattle.std.proofs.lemmas.Option.{slice_get_read, slice_get_within, slice_get-get_or}
use Rattle.turn_lock.specs.Passes.{TurnState, PassState}
use Rattle.mj_ports.specs.declared.entry.Entry.{Entry}
use Rattle.mj_ports.specs.declared.seated.Seated.{Ghosts}
use Rattle.mj_ticker.specs.declared.ticker.Sight.{Sight}
use Rattle.mj_ticker.specs.Watches.{is_ended, AreEnded, IsWatched, AreWatched}
use Rattle.mj_ticker.proofs.Besides.{at_set, set_here, set_there}

pub both_true : (a b : Bool) → (a && b) ≡ true → (a ≡ true) × (b ≡ true)
both_true true true e = (refl, refl)
both_true true false e = (refl, e)
both_true false b e = absurd (true≢false (sym e))

-- the reading up to which a table was visited in a round that has come to another
abbrev pub reached : ℕ → ℕ → Option (List ℕ) → Option (List ℕ) → Option (List ℕ)
reached t i read next = if nat_lt t i then next else read

before_it : (i : ℕ) → nat_lt i i ≡ false
before_it i = grind arith

with_it : (i : ℕ) → nat_lt i (i + 1) ≡ true
with_it i = grind arith

other_ones : (t i : ℕ) → (t ≡ i → ⊥) → nat_lt t (i + 1) ≡ nat_lt t i
other_ones t i ne = grind (arith, ne)

all_before : (t i : ℕ) → t < i → nat_lt t i ≡ true
all_before t i l = grind (arith, l)

none_before : (t : ℕ) → nat_lt t 0 ≡ false
none_before t = grind arith

-- so far nothing more is to be told at any table
pub ended_none : (sights : List Sight) → AreEnded 0 sights
ended_none sights t s low e = absurd (omega (arith, low))

pub ended_more : (sights : List Sight) (i : ℕ) (s : Sight) (before now : Bool) → now ≡ is_ended s → (before ≡ true → AreEnded i sights) → (before && now) ≡ true → AreEnded (i + 1) (set sights i s)
ended_more sights i s before now is h e t k low gk = elim (eqb_tells t i) [
  | inl j ↦ ap is_ended (set_here sights i s t k j.1 gk) ∙ (sym is ∙ (both_true before now e).1)
  | inr j ↦ h (both_true before now e).0 t k (less j.1) (set_there sights i s t k j.1 gk)
]
  where
    less : (t ≡ i → ⊥) → t < i
    less ne = omega (arith, low, ne)

pub ended_all : (many i : ℕ) (sights : List Sight) → many ≤ i → AreEnded i sights → AreEnded many sights
ended_all many i sights long h t k low gk = h t k (omega (arith, low, long)) gk

module _ {T S A R : Type 0} (g : Ghosts T S A R) (lost : T → ℕ → Bool) (handlers : ℕ) (setting : T → S) (by : ℕ) (first : TurnState T → List (Entry A)) (start : Option (List ℕ)) where
  abbrev Was : Option (List ℕ) → TurnState T → PassState T S (Entry A) → Sight → Type 0
  Was read a p s = IsWatched g lost handlers setting by (first a) start read a p s

  -- so far all are visited
  abbrev pub AreVisited : Option (List ℕ) → Option (List ℕ) → ℕ → List (TurnState T) → List (PassState T S (Entry A)) → List Sight → Type 0
  AreVisited read next i turns passes sights = (t : ℕ) (a : TurnState T) (p : PassState T S (Entry A)) (s : Sight) → slice_get turns t ≡ Some a →
      slice_get passes t ≡ Some p → slice_get sights t ≡ Some s → Was (reached t i read next) a p s

  pub visited_none : (read next : Option (List ℕ)) (turns : List (TurnState T)) (passes : List (PassState T S (Entry A))) (sights : List Sight) →
      AreWatched g lost handlers setting by first start read turns passes sights → AreVisited read next 0 turns passes sights
  visited_none read next turns passes sights is t a p s ga gp gs = subst (λ (b : Bool). Was (if b then next else read) a p s) (sym (none_before t)) (is.each t a p s ga gp gs)

  pub visited_more : (read next : Option (List ℕ)) (i : ℕ) (turns : List (TurnState T)) (passes : List (PassState T S (Entry A))) (sights : List Sight)
      (turn : TurnState T) (d q : PassState T S (Entry A)) (e k : Sight) → i < length turns → length passes ≡ length turns → length sights ≡ length turns →
      turn ≡ get_or turns i turn → (Was read turn (get_or passes i d) (get_or sights i e) → Was next turn q k)
      → AreVisited read next i turns passes sights → AreVisited read next (i + 1) turns (set passes i q) (set sights i k)
  visited_more read next i turns passes sights turn d q e k near many wide this visit before t a p s ga gp gs =
      at_set Before After turns passes i turn q near this here stays (λ t a p ga gp s gs. before t a p s ga gp gs) t a p ga gp s gs
    where
      Before : ℕ → TurnState T → PassState T S (Entry A) → Type 0
      Before t a p = (s : Sight) → slice_get sights t ≡ Some s → Was (reached t i read next) a p s

      After : ℕ → TurnState T → PassState T S (Entry A) → Type 0
      After t a p = (s : Sight) → slice_get (set sights i k) t ≡ Some s → Was (reached t (i + 1) read next) a p s

      now : Was next turn q k
      now = visit (subst (λ (b : Bool). Was (if b then next else read) turn (get_or passes i d) (get_or sights i e)) (before_it i)
          (before i turn (get_or passes i d) (get_or sights i e) (slice_get_read turns (length turns) i turn refl near this)
          (slice_get-get_or passes i d (omega (arith, near, many))) (slice_get-get_or sights i e (omega (arith, near, wide)))))

      here : After i turn q
      here s gs = subst (λ (b : Bool). Was (if b then next else read) turn q s) (sym (with_it i)) (subst (λ (x : Sight). Was next turn q x) (sym (set_here sights i k i s refl gs)) now)

      stays : (t : ℕ) (a : TurnState T) (p : PassState T S (Entry A)) → (t ≡ i → ⊥) → Before t a p → After t a p
      stays t a p other h s gs = subst (λ (c : Bool). Was (if c then next else read) a p s) (sym (other_ones t i other)) (h s (set_there sights i k t s other gs))

  pub visited_all : (read next : Option (List ℕ)) (i : ℕ) (turns : List (TurnState T)) (passes : List (PassState T S (Entry A))) (sights : List Sight) →
      length turns ≤ i → length passes ≡ length turns → length sights ≡ length turns → AreVisited read next i turns passes sights
      → AreWatched g lost handlers setting by first start next turns passes sights
  visited_all read next i turns passes sights long many wide all = record {
    second = many;
    third = wide;
    each = λ t a p s ga gp gs. subst (λ (b : Bool). Was (if b then next else read) a p s) (all_before t i (omega (arith, long, slice_get_within turns t a ga))) (all t a p s ga gp gs);
  }
