-- Rules 13.1 to 13.4: an octree, its symbols, reading, the colour at a voxel, and reduction. The sons stand in the
-- order 4x + 2y + z of their halves along the three axes.
use Rattle.std.specs.Prelude.{ℕ, zero, suc, ◌+◌, ◌*◌, ◌^◌, ◌/◌, ◌%◌, ◌≡◌, Bool, true, false, cond, ◌&&◌, List, [], ◌∷◌, ◌++◌, eqb, length, get_or}
use Rattle.universe.specs.Voxel.{place_along}
use Rattle.bintree.specs.declared.Colour.{Colour}
use Rattle.bintree.specs.declared.Colour.TheVariants.{White, Black}

-- a solid of one colour, or a cube that is parted into its eight sons
pub data Octree : Type 0 where
  solid : Colour → Octree
  parted : Octree → Octree → Octree → Octree → Octree → Octree → Octree → Octree → Octree

-- `P`
abbrev pub part_symbol : ℕ
part_symbol = 80

-- `F` and `E`
abbrev pub solid_symbol : Colour → ℕ
solid_symbol Black = 70
solid_symbol White = 69

-- rule 13.2: the symbols of an octree
unfoldable pub octree_symbols : Octree → List ℕ
octree_symbols (solid c) = solid_symbol c ∷ []
octree_symbols (parted a b c d e f g h) =
    part_symbol
    ∷ (octree_symbols a
    ++ (octree_symbols b
    ++ (octree_symbols c
    ++ (octree_symbols d
    ++ (octree_symbols e ++ (octree_symbols f ++ (octree_symbols g ++ octree_symbols h)))))))

-- how many symbols that is
unfoldable pub octree_size : Octree → ℕ
octree_size (solid c) = 1
octree_size (parted a b c d e f g h) =
    suc
    (octree_size a
    + (octree_size b
    + (octree_size c
    + (octree_size d + (octree_size e + (octree_size f + (octree_size g + octree_size h)))))))

-- an octree in which no cube below n levels is parted
pub data AtMost : ℕ → Octree → Type 0 where
  solid_most : {n : ℕ} {c : Colour} → AtMost n (solid c)
  parted_most : {n : ℕ} {a b c d e f g h : Octree} → AtMost n a → AtMost n b → AtMost n c → AtMost n d → AtMost n e
      → AtMost n f → AtMost n g → AtMost n h → AtMost (suc n) (parted a b c d e f g h)

-- ---- rule 13.2: reading

-- what symbols say from a place on: nothing, or this and the place past it
pub data Found (A : Type 0) : Type 0 where
  nothing : Found A
  found : A → ℕ → Found A

-- of what is found, or what stands for it where there is nothing
abbrev pub of_found : {A B : Type 0} → Found A → B → (A → ℕ → B) → B
of_found nothing other of = other
of_found (found a past) other of = of a past

-- two of a kind, one straight after the other
unfoldable pub with_second : {A : Type 0} → A → Found A → Found (A × A)
with_second a nothing = nothing
with_second a (found b past) = found (a, b) past

unfoldable pub after_first : {A : Type 0} → (ℕ → Found A) → Found A → Found (A × A)
after_first at nothing = nothing
after_first at (found a past) = with_second a (at past)

abbrev pub two_at : {A : Type 0} → (ℕ → Found A) → ℕ → Found (A × A)
two_at at p = after_first at (at p)

-- so eight are two, and two, and two
abbrev pub Two : Type 0 → Type 0
Two A = A × A

unfoldable pub parted_of : Found (Two (Two (Two Octree))) → Found Octree
parted_of nothing = nothing
parted_of (found (((a, b), (c, d)), ((e, f), (g, h))) past) = found (parted a b c d e f g h) past

-- a symbol that is no `P`
unfoldable pub solid_at : ℕ → ℕ → Found Octree
solid_at x p =
    cond (eqb x (solid_symbol Black)) (found (solid Black) (suc p))
    (cond (eqb x (solid_symbol White)) (found (solid White) (suc p)) nothing)

-- the one octree of at most n levels that begins at place p of s; past the end stands 0, which is no symbol
unfoldable pub octree_at : List ℕ → ℕ → ℕ → Found Octree
octree_at s zero p = solid_at (get_or s p 0) p
octree_at s (suc n) p =
    elim (eqb (get_or s p 0) part_symbol) [
      | true ↦ parted_of (two_at (two_at (two_at (λ q. octree_at s n q))) (suc p))
      | false ↦ solid_at (get_or s p 0) p
    ]

-- an octree that is all of n symbols
unfoldable pub wholly : ℕ → Found Octree → Found Octree
wholly n nothing = nothing
wholly n (found o past) = cond (eqb past n) (found o past) nothing

-- the octree of at most n levels that bytes are
unfoldable pub octree_on : ℕ → List ℕ → Found Octree
octree_on n s = wholly (length s) (octree_at s n 0)

-- ---- rule 13.3: the colour at a voxel

-- of a cube whose sons are 2^n units long, the half that holds a place
abbrev pub half_of : ℕ → ℕ → ℕ
half_of n x = x / 2 ^ n % 2

-- the number of the son with these halves along x, y and z
abbrev pub son_number : ℕ → ℕ → ℕ → ℕ
son_number x y z = 4 * x + 2 * y + z

-- that of the son which holds a voxel
abbrev pub son_to : ℕ → List ℕ → ℕ
son_to n v = son_number (half_of n (place_along v 0)) (half_of n (place_along v 1)) (half_of n (place_along v 2))

-- the son with a number; every part of a solid is one
unfoldable pub son_of : ℕ → Octree → Octree
son_of i (solid c) = solid c
son_of i (parted a b c d e f g h) = get_or (a ∷ b ∷ c ∷ d ∷ e ∷ f ∷ g ∷ h ∷ []) i (solid White)

-- the colour of an octree that is one solid; a voxel is never parted
unfoldable pub solid_colour : Octree → Colour
solid_colour (solid c) = c
solid_colour (parted _ _ _ _ _ _ _ _) = White

-- the colour that an octree of at most n levels has at a voxel: level by level, that of the son which holds the voxel
unfoldable pub octree_colour : ℕ → Octree → List ℕ → Colour
octree_colour zero o v = solid_colour o
octree_colour (suc n) o v = octree_colour n (son_of (son_to n v) o) v

-- ---- rule 13.4: reduction

-- a solid of this colour
unfoldable pub is_solid : Colour → Octree → Bool
is_solid c (solid d) = eqb (solid_symbol c) (solid_symbol d)
is_solid c (parted _ _ _ _ _ _ _ _) = false

-- eight of them
unfoldable pub are_solid : Colour → Octree → Octree → Octree → Octree → Octree → Octree → Octree → Octree → Bool
are_solid k a b c d e f g h =
    is_solid k a && is_solid k b && is_solid k c && is_solid k d && is_solid k e && is_solid k f && is_solid k g && is_solid k h

-- a cube of eight sons: one solid where they are solids of one colour
unfoldable pub join_sons : Octree → Octree → Octree → Octree → Octree → Octree → Octree → Octree → Octree
join_sons a b c d e f g h =
    cond (are_solid Black a b c d e f g h) (solid Black)
    (cond (are_solid White a b c d e f g h) (solid White) (parted a b c d e f g h))

-- from the smallest cubes up
unfoldable pub reduce : Octree → Octree
reduce (solid c) = solid c
reduce (parted a b c d e f g h) =
    join_sons (reduce a) (reduce b) (reduce c) (reduce d) (reduce e) (reduce f) (reduce g) (reduce h)

-- an octree with no `P` whose eight sons are all `F` or all `E`
pub data Reduced : Octree → Type 0 where
  solid_reduced : {c : Colour} → Reduced (solid c)
  parted_reduced : {a b c d e f g h : Octree} → are_solid Black a b c d e f g h ≡ false
      → are_solid White a b c d e f g h ≡ false → Reduced a → Reduced b → Reduced c → Reduced d → Reduced e → Reduced f
      → Reduced g → Reduced h → Reduced (parted a b c d e f g h)
