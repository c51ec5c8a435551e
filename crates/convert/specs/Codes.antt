-- How code judges a tree over two blocks at once, by rules 2.3, 2.4, 2.8, 2.9 and 3.3 to 3.5: a mark in two bits, its
-- code, by a row's least and greatest value or by a ball's nearest and farthest squares; and the codes over two blocks
-- in one number.
use Rattle.std.specs.Prelude.{ℕ, ◌+◌, ◌*◌, ◌/◌, Bool, true, false, cond, List, leb, ltb, ℤ, pos, nat_abs, ◌+ℤ◌, get_or}
use Rattle.std.specs.Int.Bits.{bit_and, bit_or}
use Rattle.std.specs.Int.Signed.{le_z}
use Rattle.lemmas.specs.Sums.{sum}
use Rattle.bintree.specs.declared.Colour.TheVariants.{White, Black}
use Rattle.csg.specs.Halfspace.{Mark, decided, undecided}
use Rattle.csg.specs.Ball.{Ball, square, radius_squared, nearest, farthest, off}
use Rattle.csg.specs.Tree.{Operator, union, intersection, minus}
use Rattle.convert.specs.declared.ball.Squares.{Squares}

-- a mark in two bits
abbrev pub black_bit : ℕ
black_bit = 1

abbrev pub white_bit : ℕ
white_bit = 2

abbrev pub bits_of : Mark → ℕ
bits_of (decided Black) = black_bit
bits_of (decided White) = white_bit
bits_of undecided = 0

-- the codes over two blocks in one number, and the two colours' bits in both
abbrev pub pair_unit : ℕ
pair_unit = 4

abbrev pub paired : ℕ → ℕ → ℕ
paired one other = one + pair_unit * other

abbrev pub black_bits : ℕ
black_bits = paired black_bit black_bit

abbrev pub white_bits : ℕ
white_bits = paired white_bit white_bit

-- the code of a voxel: the colour's bits stand above those of two marks, so that the codes of two voxels are paired as
-- marks are
abbrev pub centre_unit : ℕ
centre_unit = 16

abbrev pub voxel_code : ℕ → ℕ → ℕ
voxel_code mark colour = mark + centre_unit * colour

-- no code is more
abbrev pub most_code : ℕ
most_code = white_bit + centre_unit * white_bit

-- codes over two blocks that are voxels, with the colours' bits too; and the masks of either colour
abbrev pub with_centres : ℕ → ℕ
with_centres codes = codes + centre_unit * codes

abbrev pub black_mask : ℕ
black_mask = with_centres black_bits

abbrev pub white_mask : ℕ
white_mask = with_centres white_bits

-- the bits by which blocks are judged: the marks' or, at level L, the colours'
abbrev pub judged_bits : Bool → ℕ → ℕ
judged_bits false codes = codes
judged_bits true codes = codes / centre_unit

-- the code by two tests, the first of which decides where both hold
abbrev pub tested_code : Bool → Bool → ℕ
tested_code least greatest = cond least black_bit (cond greatest white_bit 0)

-- the mark's bits of a halfspace with this least and this greatest value: BLACK where least ≥ 0, else WHITE where
-- greatest ≤ 0; and those of its colour at the centre of a voxel, by both together, which are twice the value there
abbrev pub mark_by_values : ℤ → ℤ → ℕ
mark_by_values least greatest = tested_code (le_z (pos 0) least) (le_z greatest (pos 0))

abbrev pub colour_by_values : ℤ → ℤ → ℕ
colour_by_values least greatest = tested_code (le_z (pos 0) (least +ℤ greatest)) true

-- its code over a block, and of the voxel that the block is
abbrev pub value_code : Bool → ℤ → ℤ → ℕ
value_code false least greatest = mark_by_values least greatest
value_code true least greatest = voxel_code (mark_by_values least greatest) (colour_by_values least greatest)

-- the squares of a ball's distances along one axis, with this number of its centre: to the nearest and to the farthest
-- point of a block, and to the centre of the voxel that begins at a place, which is a quarter more than a whole number
unfoldable pub middle_square : ℕ → ℤ → ℕ
middle_square begin centre = square (nat_abs (off 2 (2 * begin + 1) centre)) / 4

unfoldable pub squares_along : ℕ → ℕ → ℤ → Squares
squares_along begin length centre = record {
  near = square (nearest begin (begin + length) centre);
  far = square (farthest begin (begin + length) centre);
  middle = middle_square begin centre;
}

-- the squares of a ball's distances to the nearest and to the farthest points of a block, and four times that to its
-- centre where it is a voxel, added up over the first n axes
unfoldable pub near_over : ℕ → Ball → List ℕ → List ℕ → ℕ
near_over n b low side =
    sum n (λ i. square (nearest (get_or low i 0) (get_or low i 0 + get_or side i 0) (b.centre i)))

unfoldable pub far_over : ℕ → Ball → List ℕ → List ℕ → ℕ
far_over n b low side =
    sum n (λ i. square (farthest (get_or low i 0) (get_or low i 0 + get_or side i 0) (b.centre i)))

unfoldable pub off_over : ℕ → Ball → List ℕ → ℕ
off_over n b low = sum n (λ i. square (nat_abs (off 2 (2 * get_or low i 0 + 1) (b.centre i))))

-- the code of a ball: BLACK where the farthest square is at most the radius squared, WHITE where the nearest is more;
-- at a centre one of both
abbrev pub ball_code_over : ℕ → Ball → List ℕ → List ℕ → ℕ
ball_code_over n b low side =
    tested_code (leb (far_over n b low side) (radius_squared b)) (ltb (radius_squared b) (near_over n b low side))

abbrev pub ball_code_at : ℕ → Ball → List ℕ → ℕ
ball_code_at n b low = tested_code (leb (off_over n b low) (4 * radius_squared b)) true

abbrev pub ball_code : Bool → ℕ → Ball → List ℕ → List ℕ → ℕ
ball_code false n b low side = ball_code_over n b low side
ball_code true n b low side = voxel_code (ball_code_over n b low side) (ball_code_at n b low)

-- the bits of a mask where either code has them, the others where both have them
abbrev pub mixed : ℕ → ℕ → ℕ → ℕ
mixed either a b = bit_and (bit_or a (bit_and b either)) (bit_or b either)

-- the codes of the opposite marks: the two bits of each exchanged
abbrev pub opposite_code : ℕ → ℕ
opposite_code a = bit_and a black_mask * 2 + bit_and (a / 2) black_mask

-- UNION is BLACK where either shape is, and WHITE where both are; MINUS is INTERSECTION with the opposite
unfoldable pub join_code : Operator → ℕ → ℕ → ℕ
join_code union a b = mixed black_mask a b
join_code intersection a b = mixed white_mask a b
join_code minus a b = mixed white_mask a (opposite_code b)
