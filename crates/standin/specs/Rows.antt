-- Rules 6.2 to 6.6: which proxies are refused, and the rows of a Box and of a Cut.
use Rattle.std.specs.Prelude.{ℕ, zero, suc, Bool, cond, ◌&&◌, Option, Some, None, List, [], ◌∷◌, ℤ, pos, negsuc, ◌+ℤ◌, ◌*ℤ◌, neg_ℤ, int_le}
use Rattle.universe.specs.Refusals.{unless, bad_proxy}
use Rattle.universe.specs.Universe.{offset_limit, coefficient_limit}
use Rattle.standin.specs.declared.Triple.{Triple}
use Rattle.standin.specs.declared.Corners.{Corners}
use Rattle.standin.specs.declared.Plane.{Plane}
use Rattle.standin.specs.declared.Solid.{Solid}
use Rattle.standin.specs.declared.Solid.TheVariants.{Box, Cut}
use Rattle.standin.specs.declared.Proxy.{Proxy}
use Rattle.standin.specs.declared.Numbers.{Numbers}
use Rattle.standin.specs.Sixteenths.{sixteenths, is_taken, corner_limit, normal_limit}

-- rule 6.1: three axes of space, and time
abbrev pub proxy_axes : ℕ
proxy_axes = 4

-- each number of a corner, normal or displacement by itself
unfoldable pub takes_triple : ℕ → Triple → Bool
takes_triple limit p = is_taken limit p.x && is_taken limit p.y && is_taken limit p.z

-- the three numbers of a corner, normal or displacement, in sixteenths
abbrev pub numbers_of : Triple → Numbers
numbers_of p = record { x = sixteenths p.x; y = sixteenths p.y; z = sixteenths p.z }

-- one number on each axis
abbrev pub alike : ℤ → Numbers
alike n = record { x = n; y = n; z = n }

-- a triple in sixteenths, where each number is taken
unfoldable pub scaled_triple : ℕ → Triple → Option Numbers
scaled_triple limit p = cond (takes_triple limit p) (Some (numbers_of p)) None

abbrev pub corner_sixteenths : Triple → Option Numbers
corner_sixteenths corner = scaled_triple corner_limit corner

-- rule 6.2: near is at most far, number by number
abbrev pub at_most : Numbers → Numbers → Bool
at_most near far = int_le near.x far.x && int_le near.y far.y && int_le near.z far.z

unfoldable pub in_order : Corners → Bool
in_order c = at_most (numbers_of c.near) (numbers_of c.far)

-- a Box and a Cut all of whose numbers are taken
unfoldable pub takes_box : Corners → Triple → Bool
takes_box c v =
    takes_triple corner_limit c.near && takes_triple corner_limit c.far && takes_triple normal_limit v && in_order c

unfoldable pub takes_cut : Plane → Triple → Bool
takes_cut p v = takes_triple normal_limit p.normal && is_taken corner_limit p.offset && takes_triple normal_limit v

-- rule 8.1, number 10: a number that is not taken, or near over far
abbrev pub solid_refusal : Solid → Triple → ℕ
solid_refusal (Box c) v = unless (takes_box c v) bad_proxy
solid_refusal (Cut p) v = unless (takes_cut p v) bad_proxy

abbrev pub proxy_refusal : Proxy → ℕ
proxy_refusal p = solid_refusal p.solid p.displacement

-- rule 6.3: a row, and the zeros of one row and of six
abbrev pub row : ℤ → ℤ → ℤ → ℤ → ℤ → List ℤ
row a0 a1 a2 a3 a4 = a0 ∷ a1 ∷ a2 ∷ a3 ∷ a4 ∷ []

abbrev pub zero_row : List ℤ
zero_row = row (pos 0) (pos 0) (pos 0) (pos 0) (pos 0)

abbrev pub zero_rows : List (List ℤ)
zero_rows = zero_row ∷ zero_row ∷ zero_row ∷ zero_row ∷ zero_row ∷ zero_row ∷ []

-- what belongs to axis 0, 1 or 2 of space
abbrev pub along : {A : Type 0} → ℕ → A → A → A → A
along zero x y z = x
along (suc zero) x y z = y
along (suc (suc axis)) x y z = z

-- a row with a number for one axis of space and 0 for the two others
abbrev pub row_along : ℕ → ℤ → ℤ → ℤ → List ℤ
row_along axis a0 n a4 =
    row a0 (along axis n (pos 0) (pos 0)) (along axis (pos 0) n (pos 0)) (along axis (pos 0) (pos 0) n) a4

-- rule 6.3: the near and the far row of an axis, from numbers in sixteenths
abbrev pub near_row : ℕ → ℤ → ℤ → List ℤ
near_row axis near v = row_along axis (neg_ℤ near) (pos 16) (neg_ℤ v)

abbrev pub far_row : ℕ → ℤ → ℤ → List ℤ
far_row axis far v = row_along axis far (negsuc 15) v

-- rule 6.3: near and far of each axis of space in turn
abbrev pub rows_between : Numbers → Numbers → Numbers → List (List ℤ)
rows_between near far v =
    near_row 0 near.x v.x
    ∷ far_row 0 far.x v.x
    ∷ near_row 1 near.y v.y
    ∷ far_row 1 far.y v.y
    ∷ near_row 2 near.z v.z
    ∷ far_row 2 far.z v.z
    ∷ []

unfoldable pub rows_of_box : Corners → Triple → List (List ℤ)
rows_of_box c v = rows_between (numbers_of c.near) (numbers_of c.far) (numbers_of v)

-- each number is from −limit to limit
unfoldable pub is_limited : ℕ → Numbers → Bool
is_limited limit n = at_most (alike (neg_ℤ (pos limit))) n && at_most n (alike (pos limit))

-- rule 6.6: the rows between any two corners in sixteenths; zeros where a row would exceed a limit of halfspaces
unfoldable pub rows_within : Numbers → Numbers → Numbers → List (List ℤ)
rows_within near far v =
    cond (is_limited offset_limit near && is_limited offset_limit far && is_limited coefficient_limit v)
    (rows_between near far v)
    zero_rows

-- the scalar product: of numbers in sixteenths it is 256·(n·v)
unfoldable pub dot : Numbers → Numbers → ℤ
dot n v = n.x *ℤ v.x +ℤ n.y *ℤ v.y +ℤ n.z *ℤ v.z

-- rule 6.4, from numbers in sixteenths: 256·c is 16 times 16·c
abbrev pub row_across : Numbers → ℤ → Numbers → List ℤ
row_across n c v = row (pos 16 *ℤ c) (pos 16 *ℤ n.x) (pos 16 *ℤ n.y) (pos 16 *ℤ n.z) (neg_ℤ (dot n v))

unfoldable pub row_of_cut : Plane → Triple → List ℤ
row_of_cut p v = row_across (numbers_of p.normal) (sixteenths p.offset) (numbers_of v)

-- the rows of a Box and of a Cut that are not refused; of the other kind there are none, and zeros stand there
abbrev pub solid_box_rows : Solid → Triple → List (List ℤ)
solid_box_rows (Box c) v = cond (takes_box c v) (rows_of_box c v) zero_rows
solid_box_rows (Cut p) v = zero_rows

abbrev pub box_rows : Proxy → List (List ℤ)
box_rows p = solid_box_rows p.solid p.displacement

abbrev pub solid_cut_row : Solid → Triple → List ℤ
solid_cut_row (Box c) v = zero_row
solid_cut_row (Cut p) v = cond (takes_cut p v) (row_of_cut p v) zero_row

abbrev pub cut_row : Proxy → List ℤ
cut_row p = solid_cut_row p.solid p.displacement

-- rule 6.5: how many of them there are
abbrev pub solid_box_count : Solid → Triple → ℕ
solid_box_count (Box c) v = cond (takes_box c v) 6 0
solid_box_count (Cut p) v = 0

abbrev pub box_row_count : Proxy → ℕ
box_row_count p = solid_box_count p.solid p.displacement

abbrev pub solid_cut_count : Solid → Triple → ℕ
solid_cut_count (Box c) v = 0
solid_cut_count (Cut p) v = cond (takes_cut p v) 1 0

abbrev pub cut_row_count : Proxy → ℕ
cut_row_count p = solid_cut_count p.solid p.displacement
