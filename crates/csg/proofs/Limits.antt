-- What the checks of rows and of balls cite: the rows, and the balls, are in one list, so many numbers each.
use Prim.Native.Nat.{ℕ, ◌+◌, ◌*◌, ◌<◌}
use mathlib.Core.Path.{◌≡◌, ◌∙◌}
use mathlib.Core.List.{List}
use lib.ListN.{get_or, drop}
use lib.IntN.{ℤ, pos}
use Rattle.std.proofs.lemmas.List.{get_or-take, get_or-drop}
use Rattle.lemmas.proofs.Chains.{chunk}

-- the j-th number of the k-th of them, at its place n in its chunk and m in the list
pub number_at : (width : ℕ) (numbers : List ℤ) (k j : ℕ) → j < width → {n m : ℕ} → n ≡ j → m ≡ width * k + j
    → get_or (chunk width numbers k) n (pos 0) ≡ get_or numbers m (pos 0)
number_at width numbers k j h e f = rw (e, f) (get_or-take width (drop (width * k) numbers) j (pos 0) h ∙ get_or-drop (width * k) numbers j (pos 0))
