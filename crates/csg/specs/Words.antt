-- Rules 3.1, 3.2, 3.6, 3.8 and 8.6: a tree's words in postfix order, its limits, and its refusals 4 and 5 in order.
use Rattle.std.specs.Prelude.{ℕ, ◌+◌, ◌-◌, Bool, cond, ◌&&◌, ◌||◌, List, [], ◌∷◌, ◌++◌, ltb, leb, eqb, length}
use Rattle.universe.specs.Refusals.{bad_tree, overfull_tree}
use Rattle.csg.specs.Halfspace.{most_rows}
use Rattle.csg.specs.Ball.{most_balls}
use Rattle.csg.specs.Surfaces.{Named, Surface, halfspace, ball, IsNamed}
use Rattle.csg.specs.Tree.{Leaf, white, black, surface, Operator, union, intersection, minus, Tree, leaf, node}

-- rule 3.2: how many words a tree may have, and how many shapes may be pending
abbrev pub most_words : ℕ
most_words = 255

abbrev pub most_pending : ℕ
most_pending = 32

-- what a word asks for: to push a leaf, to join the two shapes last pending, or nothing that is known
pub data Word : Type 0 where
  push : Leaf → Word
  join : Operator → Word
  unknown : Word

-- rules 3.1 and 3.8: the words that name halfspace 0 and ball 0
abbrev pub first_halfspace : ℕ
first_halfspace = 256

abbrev pub first_ball : ℕ
first_ball = 512

-- whether a word is one of so many from the first on, and whether it names one of those that there are
abbrev pub is_among : ℕ → ℕ → ℕ → Bool
is_among first most w = leb first w && ltb w (first + most)

abbrev pub names_one : ℕ → ℕ → ℕ → ℕ → Bool
names_one first most there w = is_among first most w && ltb (w - first) there

-- which words name a halfspace at all, and which a ball
abbrev pub names_halfspace : ℕ → Bool
names_halfspace w = is_among first_halfspace most_rows w

abbrev pub names_ball : ℕ → Bool
names_ball w = is_among first_ball most_balls w

-- whether a word names a surface, one of so many as there are, and which
abbrev pub names_surface : Named → ℕ → Bool
names_surface names w =
    names_one first_halfspace most_rows names.halfspaces w || names_one first_ball most_balls names.balls w

abbrev pub surface_of : ℕ → Surface
surface_of w = cond (ltb w first_ball) (halfspace (w - first_halfspace)) (ball (w - first_ball))

-- the word of MINUS, and the words of A MINUS A from those of A
abbrev pub minus_word : ℕ
minus_word = 4

abbrev pub minus_itself : List ℕ → List ℕ
minus_itself words = words ++ (words ++ (minus_word ∷ []))

-- rule 3.1: what each word means; one that names no row and no ball means as little as one that is no word
unfoldable pub meaning : Named → ℕ → Word
meaning names w =
    cond (eqb w 0) (push white)
    (cond (eqb w 1) (push black)
    (cond (eqb w 2) (join union)
    (cond (eqb w 3) (join intersection)
    (cond (eqb w minus_word) (join minus)
    (cond (names_surface names w) (push (surface (surface_of w))) unknown)))))

-- the same by a word's number alone: whether it joins, and with what; whether it pushes, and which leaf (`meaning_is`
-- of proofs/Words.antt)
abbrev pub is_operator : ℕ → Bool
is_operator w = leb 2 w && leb w 4

abbrev pub operator_of : ℕ → Operator
operator_of w = cond (eqb w 2) union (cond (eqb w 3) intersection minus)

abbrev pub is_leaf : Named → ℕ → Bool
is_leaf names w = leb w 1 || names_surface names w

abbrev pub leaf_of : ℕ → Leaf
leaf_of w = cond (eqb w 0) white (cond (eqb w 1) black (surface (surface_of w)))

-- rule 8.1: why words are no tree, number 4 where they do not make one shape, number 5 where they exceed a limit
pub data Fault : Type 0 where
  malformed : Fault
  overfull : Fault

abbrev pub number_of : Fault → ℕ
number_of malformed = bad_tree
number_of overfull = overfull_tree

-- what reading words comes to
pub data Outcome (A : Type 0) : Type 0 where
  refused : Fault → Outcome A
  made : A → Outcome A

abbrev pub and_then : {A B : Type 0} → Outcome A → (A → Outcome B) → Outcome B
and_then (refused f) next = refused f
and_then (made a) next = next a

-- what is made, under a meaning
abbrev pub map_outcome : {A B : Type 0} → (A → B) → Outcome A → Outcome B
map_outcome f (refused fault) = refused fault
map_outcome f (made a) = made (f a)

-- words read one by one over the shapes pending, the last one first, for any meaning of leaves and operators
module _ {A : Type 0} (of_leaf : Leaf → A) (of_node : Operator → A → A → A) where
  unfoldable pub step : Word → List A → Outcome (List A)
  step (push l) pending = cond (ltb (length pending) most_pending) (made (of_leaf l ∷ pending)) (refused overfull)
  step (join o) [] = refused malformed
  step (join o) (b ∷ []) = refused malformed
  step (join o) (b ∷ a ∷ pending) = made (of_node o a b ∷ pending)
  step unknown pending = refused malformed

  unfoldable pub finish : List A → Outcome A
  finish [] = refused malformed
  finish (a ∷ []) = made a
  finish (a ∷ b ∷ pending) = refused malformed

  unfoldable pub run : Named → List ℕ → List A → Outcome A
  run names [] pending = finish pending
  run names (w ∷ ws) pending = and_then (step (meaning names w) pending) (run names ws)

  -- the same meaning, given to a tree
  unfoldable pub fold : Tree → A
  fold (leaf l) = of_leaf l
  fold (node o a b) = of_node o (fold a) (fold b)

-- rule 8.6: the tree of a list of words, where there is so much to name; their number is looked at first, then word by
-- word, then what is left
unfoldable pub parse : Named → List ℕ → Outcome Tree
parse names ws = cond (ltb most_words (length ws)) (refused overfull) (run leaf node names ws [])

-- number 4 or 5; 0 where the words are a tree
abbrev pub outcome_refusal : {A : Type 0} → Outcome A → ℕ
outcome_refusal (refused f) = number_of f
outcome_refusal (made a) = 0

unfoldable pub tree_refusal : Named → List ℕ → ℕ
tree_refusal names ws = outcome_refusal (parse names ws)

-- the tree of words that are not refused
abbrev pub or_white : Outcome Tree → Tree
or_white (refused f) = leaf white
or_white (made t) = t

unfoldable pub tree_of : Named → List ℕ → Tree
tree_of names ws = or_white (parse names ws)

-- how many of the words are among so many from the first on
unfoldable pub count_words : ℕ → ℕ → List ℕ → ℕ
count_words first most [] = 0
count_words first most (w ∷ ws) = cond (is_among first most w) 1 0 + count_words first most ws

-- rules 3.6 and 4.14: how many of the words name a halfspace, and how many a ball; one named twice counts twice
abbrev pub halfspace_words : List ℕ → ℕ
halfspace_words ws = count_words first_halfspace most_rows ws

abbrev pub ball_words : List ℕ → ℕ
ball_words ws = count_words first_ball most_balls ws

-- every surface of the tree is one of so many
pub data AllNamed (names : Named) : Tree → Type 0 where
  white_named : AllNamed names (leaf white)
  black_named : AllNamed names (leaf black)
  surface_named : {s : Surface} → IsNamed names s → AllNamed names (leaf (surface s))
  node_named : {o : Operator} {a b : Tree} → AllNamed names a → AllNamed names b → AllNamed names (node o a b)
