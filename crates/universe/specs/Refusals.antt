-- Rules 8.1 and 8.5: the numbers. Each check gives its number or 0; the first that is not 0 is the answer's.
use Rattle.std.specs.Prelude.{ℕ, Bool, cond, List, [], ◌∷◌, eqb}

-- the numbers by their names
abbrev pub bad_file : ℕ
bad_file = 1

abbrev pub bad_universe : ℕ
bad_universe = 2

abbrev pub bad_rows : ℕ
bad_rows = 3

abbrev pub bad_tree : ℕ
bad_tree = 4

abbrev pub overfull_tree : ℕ
overfull_tree = 5

abbrev pub no_room : ℕ
no_room = 6

abbrev pub bad_expression : ℕ
bad_expression = 7

abbrev pub not_merged : ℕ
not_merged = 8

abbrev pub outside : ℕ
outside = 9

abbrev pub bad_proxy : ℕ
bad_proxy = 10

abbrev pub bad_keys : ℕ
bad_keys = 11

abbrev pub bad_step : ℕ
bad_step = 12

-- the first number of the checks, in their order, that is not 0; 0 where all accept
abbrev pub first_refusal : List ℕ → ℕ
first_refusal [] = 0
first_refusal (n ∷ ns) = cond (eqb n 0) (first_refusal ns) n

-- the number, where the test fails
abbrev pub unless : Bool → ℕ → ℕ
unless good number = cond good 0 number
