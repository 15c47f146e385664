-- Which bytes are a text.
use Rattle.std.proofs.Common.{◌≡◌, ◌≤◌, ℕ, List, length, Bool, true, false, refl, sym, arith}
use Rattle.std.specs.Prelude.{IsUtf8}
use Rattle.std.specs.Str.{is_utf8}
use Rattle.mj_ports.specs.Names.{is_name}
use Rattle.std.proofs.lemmas.Str.{IsUtf8-from_is_utf8, is_utf8-from_IsUtf8}

pub some-text : (bytes : List ℕ) → IsUtf8 bytes → true ≡ is_utf8 bytes
some-text bytes h = sym (is_utf8-from_IsUtf8 bytes h)

pub no-text : (bytes : List ℕ) → (IsUtf8 bytes → ⊥) → false ≡ is_utf8 bytes
no-text bytes h = either (is_utf8 bytes) refl
  where
    either : (t : Bool) → is_utf8 bytes ≡ t → false ≡ is_utf8 bytes
    either true e = absurd (h (IsUtf8-from_is_utf8 bytes e))
    either false e = sym e

pub ruleset texts_by_test = (some-text, no-text)

-- a name has at most 64 bytes
pub name_fits : (text : List ℕ) → is_name text ≡ true → length text ≤ 64
unfolding is_name
name_fits text h = grind arith
