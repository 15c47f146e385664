-- What handlers leave at tables, put together.
use Rattle.std.specs.Prelude.{◌≡◌, ℕ, List, [], length, flat_map, get_or, Some, slice_get}
use Rattle.mj_handlers.specs.declared.visit.Session.{Session}

-- At each of so many tables the sessions are those of the handlers there, those of one handler after those of the one before it.
pub record AreJoined {L : Type 0} (tables : ℕ) (kept : List (List (List (Session L)))) (all : List (List (Session L))) : Type 0 where
  pub many : length all ≡ tables
  pub each : (t : ℕ) (ss : List (Session L)) → slice_get all t ≡ Some ss → ss ≡ flat_map (λ k. get_or k t []) kept
