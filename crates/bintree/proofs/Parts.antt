-- The part at a path, by the path's halves; where its symbols stand among the shape's; and the colour at a voxel, whose path has L halves, so that the part
-- there is a leaf.
use mathlib.Core.Path.{◌≡◌, refl, sym, ap, ◌∙◌}
use mathlib.Core.Bool.{Bool, true, false, cond, ◌&&◌}
use mathlib.Core.List.{List, [], ◌∷◌, ◌++◌, append_assoc, append-nil}
use Prim.Native.Nat.{ℕ, zero, suc, ◌+◌, ◌-◌, ◌≤◌, ◌<◌}
use native.Mathlib.Decide.{ℕ_discrete}
use native.Mathlib.Omega.{arith}
use borrow.Author.Tests.{eq-eqb, ne_eqb, leb-true, le-leb, ltb-true, lt-ltb}
use lib.Dec.{eqb, leb, ltb}
use lib.ListN.{length, get_or, take, drop}
use lib.Seq.{take_at, drop_at, drop-drop}
use Rattle.lemmas.specs.Sums.{every}
use Rattle.lemmas.proofs.Sums.{and_left, and_right, and_both, every_all, all_every}
use Rattle.universe.proofs.Refusing.{unless_holds, holds_unless}
use Rattle.universe.proofs.Voxel.{path_length}
use Rattle.universe.specs.declared.Universe.{Universe}
use Rattle.universe.specs.Refusals.{outside, unless}
use Rattle.universe.specs.Universe.{levels}
use Rattle.universe.specs.Voxel.{path_to}
use Rattle.bintree.specs.declared.Colour.{Colour}
use Rattle.bintree.specs.Shape.{Shape, leaf, halved, symbols, size, depth}
use Rattle.bintree.specs.Told.{PlacedAnswer}
use Rattle.bintree.specs.Reading.{Reading, none, read, expression}
use Rattle.bintree.specs.Answers.{of_shape}
use Rattle.bintree.specs.Parts.{part, part_start, path_refusal, refused_place, done_place, part_refusal, place_answer, part_answer}
use Rattle.bintree.proofs.Shape.{length_symbols, depth_low, depth_high, halved_deep}
use Rattle.bintree.proofs.Reading.{expression_at_lem, read_is}
use Rattle.bintree.proofs.Answers.{number_of}

pub part_empty : (s : Shape) → part s [] ≡ s
unfolding part
part_empty (leaf c) = refl
part_empty (halved a b) = refl

pub part_leaf : (c : Colour) (path : List ℕ) → part (leaf c) path ≡ leaf c
unfolding part
part_leaf c path = refl

pub part_half : (a b : Shape) (h : ℕ) (path : List ℕ) → part (halved a b) (h ∷ path) ≡ cond (eqb h 0) (part a path) (part b path)
unfolding part
part_half a b h path = refl

pub part_low : (a b : Shape) (path : List ℕ) → part (halved a b) (0 ∷ path) ≡ part a path
unfolding part
part_low a b path = refl

pub part_high : (a b : Shape) (path : List ℕ) → part (halved a b) (1 ∷ path) ≡ part b path
unfolding part
part_high a b path = refl

-- a path after a path
part_choice : (choice : Bool) (x y : Shape) (path : List ℕ) → part (cond choice x y) path ≡ cond choice (part x path) (part y path)
part_choice true x y path = refl
part_choice false x y path = refl

pub part_append : (s : Shape) (path more : List ℕ) → part s (path ++ more) ≡ part (part s path) more
unfolding part
part_append (leaf c) path more = refl
part_append (halved a b) [] more = refl
part_append (halved a b) (h ∷ path) more = rw (part_append a path more, part_append b path more) (sym (part_choice (eqb h 0) (part a path) (part b path) more))

-- where the part starts, and that it ends inside the shape
pub start_empty : (s : Shape) → part_start s [] ≡ 0
unfolding part_start
start_empty (leaf c) = refl
start_empty (halved a b) = refl

within_choice : (choice : Bool) (m n : ℕ) (x y : Shape) (most : ℕ) → m + size x ≤ most → n + size y ≤ most → cond choice m n + size (cond choice x y) ≤ most
within_choice true m n x y most h k = h
within_choice false m n x y most h k = k

pub part_within : (s : Shape) (path : List ℕ) → part_start s path + size (part s path) ≤ size s
unfolding part part_start size
part_within (leaf c) path = omega arith
part_within (halved a b) [] = omega arith
part_within (halved a b) (h ∷ path) =
    let x = part_within a path in
    let y = part_within b path in
    within_choice (eqb h 0) (suc (part_start a path)) (suc (size a + part_start b path)) (part a path) (part b path) (suc (size a + size b))
    (omega arith) (omega arith)

-- the part's symbols stand there, whatever follows the shape's
cut_choice :
    (choice : Bool) (s : List ℕ) (m n : ℕ) (x y : Shape) → take (size x) (drop m s) ≡ symbols x → take (size y) (drop n s) ≡ symbols y →
    take (size (cond choice x y)) (drop (cond choice m n) s) ≡ symbols (cond choice x y)
cut_choice true s m n x y h k = h
cut_choice false s m n x y h k = k

part_cut : (s : Shape) (path rest : List ℕ) → take (size (part s path)) (drop (part_start s path) (symbols s ++ rest)) ≡ symbols (part s path)
unfolding part part_start size symbols
part_cut (leaf c) path rest = refl
part_cut (halved a b) [] rest = take_at (symbols (halved a b)) rest (size (halved a b)) (length_symbols (halved a b))
part_cut (halved a b) (h ∷ path) rest =
    let both = append_assoc (symbols a) (symbols b) rest in
    let k = part_start b path in
    let past : drop (size a + k) (symbols a ++ (symbols b ++ rest)) ≡ drop k (symbols b ++ rest) =
    sym (drop-drop k (size a) (symbols a ++ (symbols b ++ rest))) ∙ ap (drop k) (drop_at (symbols a) (symbols b ++ rest) (size a) (length_symbols a)) in
    cut_choice (eqb h 0) (symbols (halved a b) ++ rest) (suc (part_start a path)) (suc (size a + k)) (part a path) (part b path)
    (rw both (part_cut a path (symbols b ++ rest)))
    (rw (both, past) (part_cut b path rest))

-- THEOREM: the cut at a part's start, as long as the part, is the part's own expression
pub part_symbols : (s : Shape) (path : List ℕ) → take (size (part s path)) (drop (part_start s path) (symbols s)) ≡ symbols (part s path)
part_symbols s path = rw (append-nil (symbols s)) at (part_cut s path [])

-- each half of the path leads at least one halving down
depth_choice : (choice : Bool) (x y : Shape) (n : ℕ) → depth x ≤ n → depth y ≤ n → depth (cond choice x y) ≤ n
depth_choice true x y n h k = h
depth_choice false x y n h k = k

pub depth_part : (s : Shape) (n : ℕ) (path : List ℕ) → depth s ≤ n → depth (part s path) ≤ n - length path
unfolding part depth
depth_part (leaf c) n path h = omega arith
depth_part (halved a b) n [] h = omega arith
depth_part (halved a b) zero (d ∷ path) h = absurd (omega arith)
depth_part (halved a b) (suc n) (d ∷ path) h =
    let e : suc n - suc (length path) ≡ n - length path = omega arith in
    rw e
    (depth_choice (eqb d 0) (part a path) (part b path) (n - length path)
    (depth_part a n path (depth_low a b n h)) (depth_part b n path (depth_high a b n h)))

-- so a path that is as long as the shape is deep leads to a leaf
flat_leaf : (s : Shape) → depth s ≤ 0 → (c : Colour) × (s ≡ leaf c)
flat_leaf (leaf c) h = (c, refl)
flat_leaf (halved a b) h = absurd (halved_deep a b h)

pub leaf_part : (s : Shape) (path : List ℕ) → depth s ≤ length path → (c : Colour) × (part s path ≡ leaf c)
leaf_part s path h = flat_leaf (part s path) (omega (arith, depth_part s (length path) path h))

-- a voxel's path has L halves
pub length_path : (u : Universe) (v : List ℕ) → length (path_to u v) ≡ levels u
length_path u v = path_length u v 0 (levels u)

pub voxel_leaf : (u : Universe) (s : Shape) (v : List ℕ) → depth s ≤ levels u → (c : Colour) × (part s (path_to u v) ≡ leaf c)
voxel_leaf u s v h = leaf_part s (path_to u v) (omega (arith, length_path u v))

-- a path is accepted exactly where it has at most L bytes, each 0 or 1
pub record IsPath (u : Universe) (path : List ℕ) : Type 0 where
  pub short : length path ≤ levels u
  pub halves : (i : ℕ) → i < length path → get_or path i 0 < 2

pub accepted_path : (u : Universe) (path : List ℕ) → path_refusal u path ≡ 0 → IsPath u path
unfolding path_refusal
accepted_path u path e =
    let short : Bool = leb (length path) (levels u) in
    let halves : Bool = every (length path) (λ i. ltb (get_or path i 0) 2) in
    let both = unless_holds (short && halves) outside (omega arith) e in
    record {
      short = leb-true _ _ (and_left short halves both);
      halves = λ i h. ltb-true _ _ (every_all (length path) (λ i. ltb (get_or path i 0) 2) (and_right short halves both) i h);
    }

pub path_accepted : (u : Universe) (path : List ℕ) → IsPath u path → path_refusal u path ≡ 0
unfolding path_refusal
path_accepted u path w =
    holds_unless _ outside (and_both (le-leb _ _ w.short) (all_every (length path) (λ i. ltb (get_or path i 0) 2) (λ i h. lt-ltb _ _ (w.halves i h))))

pub path_refused : (u : Universe) (path : List ℕ) → (IsPath u path → ⊥) → path_refusal u path ≡ outside
unfolding path_refusal
path_refused u path h = number (leb (length path) (levels u) && every (length path) (λ i. ltb (get_or path i 0) 2)) (λ e. h (accepted_path u path e))
  where
    number : (good : Bool) → (unless good outside ≡ 0 → ⊥) → unless good outside ≡ outside
    number true k = absurd (k refl)
    number false k = refl

-- where the part for a block stands: the answer by its number
module _ (u : Universe) (s path : List ℕ) where
  placed_refused : (part_refusal u s path ≡ 0 → ⊥) → place_answer u s path ≡ refused_place (part_refusal u s path)
  unfolding place_answer
  placed_refused h = rw (ne_eqb (part_refusal u s path) 0 h)

  placed_read : (a : Shape) → part_refusal u s path ≡ 0 → expression u s ≡ read a → place_answer u s path ≡ done_place (part_start a path) (size (part a path))
  unfolding place_answer
  placed_read a e f = rw (eq-eqb (part_refusal u s path) 0 e, f)

  placed_none : part_refusal u s path ≡ 0 → expression u s ≡ none → place_answer u s path ≡ done_place 0 0
  unfolding place_answer
  placed_none e f = rw (eq-eqb (part_refusal u s path) 0 e, f)

  pub placed_number : (r : PlacedAnswer) → r ≡ place_answer u s path → r.refusal ≡ part_refusal u s path
  unfolding place_answer
  placed_number r e =
      ap (λ (z : PlacedAnswer). z.refusal) e ∙ number_of refused_place _ (part_refusal u s path) (λ z. z.refusal) (λ m. refl) (go (expression u s))
    where
      go : (x : Reading) → (of_shape x (done_place 0 0) (λ a. done_place (part_start a path) (size (part a path)))).refusal ≡ 0
      go none = refl
      go (read a) = refl

  -- the place is inside the expression, whatever was asked
  pub placed_within : (place_answer u s path).start + (place_answer u s path).length ≤ length s
  placed_within = go (ℕ_discrete (part_refusal u s path) 0) (expression u s) refl
    where
      go : Dec (part_refusal u s path ≡ 0) → (x : Reading) → expression u s ≡ x → (place_answer u s path).start + (place_answer u s path).length ≤ length s
      go (no n) x f = rw (placed_refused n) (omega arith)
      go (yes z) none f = rw (placed_none z f) (omega arith)
      go (yes z) (read a) f = rw (placed_read a z f) (omega (arith, part_within a path, (expression_at_lem u s a f).1))

  -- THEOREM: the part that is handed back is the part's own expression; and empty where the path or the expression is refused
  pub part_is : (a : Shape) → part_refusal u s path ≡ 0 → expression u s ≡ read a → part_answer u s path ≡ symbols (part a path)
  unfolding part_answer
  part_is a e f = rw (placed_read a e f, ← (read_is u s a f).0) (part_symbols a path)

  pub part_refused : (part_refusal u s path ≡ 0 → ⊥) → part_answer u s path ≡ []
  unfolding part_answer
  part_refused h = rw (placed_refused h)
