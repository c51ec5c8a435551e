-- The header of a scene file: how long it is and how many balls it counts, by its version; each test of `is_scene` alone decides where those before it hold;
-- and each number is read at its place.
use Prim.Native.Nat.{ℕ, ◌≤◌, ◌<◌}
use native.Mathlib.Omega.{arith}
use mathlib.Core.Path.{◌≡◌}
use mathlib.Core.Bool.{Bool, true, false, cond, ◌&&◌}
use mathlib.Core.List.{List}
use lib.Dec.{eqb}
use lib.ListN.{length}
use borrow.Author.Tests.{eqb-true}
use Rattle.lemmas.proofs.Sums.{and_right}
use Rattle.files.proofs.Numbers.{no_header, header_there}
use Rattle.files.specs.Numbers.{version_of, has_header}
use Rattle.files.specs.Scenes.{scene_mark, ball_version, rows_place, scene_length, has_version, is_scene}

-- so many bytes it has at the least, and at the most
pub least : (bytes : List ℕ) → 18 ≤ rows_place bytes
unfolding rows_place
least bytes = go (eqb (version_of bytes) ball_version)
  where
    go : (b : Bool) → 18 ≤ cond b 20 18
    go true = omega arith
    go false = omega arith

pub most : (bytes : List ℕ) → rows_place bytes ≤ 20
unfolding rows_place
most bytes = go (eqb (version_of bytes) ball_version)
  where
    go : (b : Bool) → cond b 20 18 ≤ 20
    go true = omega arith
    go false = omega arith

-- so what every header has is within bytes that are as long as theirs
module _ (bytes : List ℕ) (n : ℕ) (long : rows_place bytes ≤ length bytes) where
  pub within_header : n ≤ 18 → n ≤ length bytes
  within_header h = omega (arith, least bytes)

  pub at_header : n < 18 → n < length bytes
  at_header h = omega (arith, least bytes)

-- ---- the tests of a scene

module _ (bytes : List ℕ) (is : is_scene bytes ≡ true) where
  pub scene_whole : length bytes ≡ scene_length bytes
  unfolding is_scene
  scene_whole = eqb-true _ _ (and_right (has_header bytes (rows_place bytes) scene_mark && has_version bytes) _ is)

pub ruleset header_laws = (within_header, at_header, most)

pub ruleset test_laws = (least, no_header, header_there)
