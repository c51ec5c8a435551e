-- Reading words with any meaning of leaves and operators is that meaning of the tree which they write (`run_parse`), so one law for each kind of
-- word serves the check, which counts the shapes pending, and every evaluation, which keeps their values in an array.
use Prim.Native.Nat.{ℕ, zero, suc, ◌+◌, ◌-◌, ◌≤◌, ◌<◌}
use native.Mathlib.Omega.{arith}
use native.Mathlib.Numerals.{add-one}
use mathlib.Core.Path.{◌≡◌, refl, sym, ap, ◌∙◌}
use mathlib.Core.Bool.{Bool, true, false, cond, ◌||◌, false≢true}
use mathlib.Core.List.{List, [], ◌∷◌, map}
use lib.ListN.{length, get_or, drop, length-map}
use lib.Seq.{drop-cons}
use lib.Dec.{ltb, leb}
use borrow.Author.Tests.{ne_eqb, lt-ltb, le-ltb, ltb-true, ltb-false, leb-true, le-leb, lt-leb}
use Rattle.lemmas.proofs.Sums.{and_left, and_right}
use Rattle.universe.specs.Refusals.{overfull_tree}
use Rattle.csg.specs.Halfspace.{most_rows}
use Rattle.csg.specs.Ball.{most_balls}
use Rattle.csg.specs.Surfaces.{Named, Surface, halfspace, ball, IsNamed, halfspace_named, ball_named, count_halfspace, count_ball}
use Rattle.csg.specs.Tree.{Leaf, surface, Operator, Tree, leaf, node, count_leaves, leaves, ball_leaves}
use Rattle.csg.specs.Words.{most_words, most_pending, Word, push, join, unknown, first_halfspace, first_ball, is_among, names_one, surface_of}
use Rattle.csg.specs.Words.{meaning, is_operator, operator_of, is_leaf, leaf_of, Fault, malformed, overfull, Outcome, refused, made, and_then, map_outcome}
use Rattle.csg.specs.Words.{step, finish, run, fold, parse, outcome_refusal, tree_refusal, or_white, tree_of, count_words, halfspace_words, ball_words}
use Rattle.csg.specs.Words.{AllNamed, white_named, black_named, surface_named, node_named}

-- a word by its number: an operator, else a leaf, else unknown
abbrev by_number : Named → ℕ → Word
by_number names w = cond (is_operator w) (join (operator_of w)) (cond (is_leaf names w) (push (leaf_of w)) unknown)

far : (names : Named) (w : ℕ) → 4 < w → meaning names w ≡ by_number names w
unfolding meaning
far names w h =
    simp (
      ne_eqb w 0 (omega arith),
      ne_eqb w 1 (omega arith),
      ne_eqb w 2 (omega arith),
      ne_eqb w 3 (omega arith),
      ne_eqb w 4 (omega arith),
      le-leb 2 w (omega arith),
      lt-leb w 4 h,
      lt-leb w 1 (omega arith),
    )

pub meaning_is : (names : Named) (w : ℕ) → meaning names w ≡ by_number names w
unfolding meaning
meaning_is names zero = refl
meaning_is names (suc zero) = refl
meaning_is names (suc (suc zero)) = refl
meaning_is names (suc (suc (suc zero))) = refl
meaning_is names (suc (suc (suc (suc zero)))) = refl
meaning_is names (suc (suc (suc (suc (suc w))))) = far names (suc (suc (suc (suc (suc w))))) (omega arith)

-- a word among so many from the first on is at least the first, and below the last but one
pub among_is : (first most w : ℕ) → is_among first most w ≡ true → (first ≤ w) × (w < first + most)
among_is first most w e =
    (leb-true _ _ (and_left (leb first w) (ltb w (first + most)) e), ltb-true _ _ (and_right (leb first w) (ltb w (first + most)) e))

one_is : (first most there w : ℕ) → names_one first most there w ≡ true → (first ≤ w) × (w < first + most) × (w - first < there)
one_is first most there w e =
    let a = among_is first most w (and_left (is_among first most w) (ltb (w - first) there) e) in
    (a.0, a.1, ltb-true _ _ (and_right (is_among first most w) (ltb (w - first) there) e))

-- what a word names: a halfspace, one of the rows, by a word of 256 to 511, or a ball, one of the balls, by a word of 512 to 575
pub data Names (names : Named) (w : ℕ) : Type 0 where
  a_halfspace : first_halfspace ≤ w → w < first_ball → w - first_halfspace < names.halfspaces → Names names w
  a_ball : first_ball ≤ w → w < first_ball + most_balls → w - first_ball < names.balls → Names names w

module _ (names : Named) (w : ℕ) where
  pub join_word : is_operator w ≡ true → meaning names w ≡ join (operator_of w)
  join_word o = meaning_is names w ∙ simp o

  pub push_word : is_operator w ≡ false → is_leaf names w ≡ true → meaning names w ≡ push (leaf_of w)
  push_word o l = meaning_is names w ∙ simp (o, l)

  pub unknown_word : is_operator w ≡ false → is_leaf names w ≡ false → meaning names w ≡ unknown
  unknown_word o l = meaning_is names w ∙ simp (o, l)

  -- a leaf that is neither WHITE nor BLACK names a surface
  pub leaf_names : is_leaf names w ≡ true → 1 < w → Names names w
  leaf_names l h = by (names_one first_halfspace most_rows names.halfspaces w) refl (rw (lt-leb w 1 h) at l)
    where
      by : (b : Bool) → names_one first_halfspace most_rows names.halfspaces w ≡ b → (b || names_one first_ball most_balls names.balls w) ≡ true → Names names w
      by true e t = let o = one_is first_halfspace most_rows names.halfspaces w e in a_halfspace o.0 o.1 o.2
      by false e t = let o = one_is first_ball most_balls names.balls w t in a_ball o.0 o.1 o.2

pub leaf_surface : (w : ℕ) → 1 < w → leaf_of w ≡ surface (surface_of w)
leaf_surface w h = simp (ne_eqb w 0 (omega arith), ne_eqb w 1 (omega arith))

-- a word below 512 names a halfspace, one from 512 on a ball
pub below_halfspace : (w : ℕ) → w < first_ball → surface_of w ≡ halfspace (w - first_halfspace)
below_halfspace w h = rw (lt-ltb w first_ball h)

pub above_ball : (w : ℕ) → first_ball ≤ w → surface_of w ≡ ball (w - first_ball)
above_ball w h = rw (le-ltb w first_ball h)

-- the word at i, and those after it
pub next : (ws : List ℕ) (i : ℕ) → i < length ws → drop i ws ≡ get_or ws i 0 ∷ drop (i + 1) ws
next ws i h = rw (add-one, drop-cons ws i 0)

-- one step of the machine, by the kind of its word
module _ {A : Type 0} (of_leaf : Leaf → A) (of_node : Operator → A → A → A) (names : Named) (w : ℕ) (ws : List ℕ) where
  pub on_leaf : (pending : List A) → is_operator w ≡ false → is_leaf names w ≡ true → length pending < most_pending →
      run of_leaf of_node names (w ∷ ws) pending ≡ run of_leaf of_node names ws (of_leaf (leaf_of w) ∷ pending)
  unfolding run step
  on_leaf pending o l h = rw (push_word names w o l, lt-ltb (length pending) most_pending h)

  pub on_full : (pending : List A) → is_operator w ≡ false → is_leaf names w ≡ true → most_pending ≤ length pending →
      run of_leaf of_node names (w ∷ ws) pending ≡ refused overfull
  unfolding run step
  on_full pending o l h = rw (push_word names w o l, le-ltb (length pending) most_pending h)

  pub on_operator : (a b : A) (pending : List A) → is_operator w ≡ true →
      run of_leaf of_node names (w ∷ ws) (b ∷ a ∷ pending) ≡ run of_leaf of_node names ws (of_node (operator_of w) a b ∷ pending)
  unfolding run step
  on_operator a b pending o = rw (join_word names w o)

  pub on_few : (pending : List A) → is_operator w ≡ true → length pending < 2 → run of_leaf of_node names (w ∷ ws) pending ≡ refused malformed
  unfolding run step
  on_few [] o h = rw (join_word names w o)
  on_few (b ∷ []) o h = rw (join_word names w o)
  on_few (b ∷ a ∷ pending) o h = absurd (omega arith)

  pub on_unknown : (pending : List A) → is_operator w ≡ false → is_leaf names w ≡ false → run of_leaf of_node names (w ∷ ws) pending ≡ refused malformed
  unfolding run step
  on_unknown pending o l = rw (unknown_word names w o l)

-- reading with a meaning is the meaning of what is read
module _ {A : Type 0} (of_leaf : Leaf → A) (of_node : Operator → A → A → A) where
  abbrev meant : Tree → A
  meant = fold of_leaf of_node

  step_fold : (w : Word) (pending : List Tree) → step of_leaf of_node w (map meant pending) ≡ map_outcome (map meant) (step leaf node w pending)
  unfolding step fold
  step_fold (push l) pending = rw length-map (by (ltb (length pending) most_pending))
    where
      by : (b : Bool) →
          cond b (made (of_leaf l ∷ map meant pending)) (refused overfull) ≡ map_outcome (map meant) (cond b (made (leaf l ∷ pending)) (refused overfull))
      by true = refl
      by false = refl
  step_fold (join o) [] = refl
  step_fold (join o) (b ∷ []) = refl
  step_fold (join o) (b ∷ a ∷ pending) = refl
  step_fold unknown pending = refl

  pub run_fold : (names : Named) (ws : List ℕ) (pending : List Tree) →
      run of_leaf of_node names ws (map (fold of_leaf of_node) pending) ≡ map_outcome (fold of_leaf of_node) (run leaf node names ws pending)
  unfolding run finish
  run_fold names [] [] = refl
  run_fold names [] (a ∷ []) = refl
  run_fold names [] (a ∷ b ∷ pending) = refl
  run_fold names (w ∷ ws) pending = rw step_fold (by (λ p. run_fold names ws p) (step leaf node (meaning names w) pending))
    where
      by : ((p : List Tree) → run of_leaf of_node names ws (map meant p) ≡ map_outcome meant (run leaf node names ws p)) → (s : Outcome (List Tree)) →
          and_then (map_outcome (map meant) s) (run of_leaf of_node names ws) ≡ map_outcome meant (and_then s (run leaf node names ws))
      by onward (refused f) = refl
      by onward (made p) = onward p

  pub run_parse : (names : Named) (ws : List ℕ) → run of_leaf of_node names ws [] ≡ map_outcome (fold of_leaf of_node) (run leaf node names ws [])
  run_parse names ws = run_fold names ws []

-- words that are not refused
module _ (names : Named) (ws : List ℕ) (accepted : tree_refusal names ws ≡ 0) where
  parsed : parse names ws ≡ made (tree_of names ws)
  unfolding tree_refusal tree_of
  parsed = by (parse names ws) accepted
    where
      by : (o : Outcome Tree) → outcome_refusal o ≡ 0 → o ≡ made (or_white o)
      by (refused malformed) e = absurd (omega arith)
      by (refused overfull) e = absurd (omega arith)
      by (made t) e = refl

  run_and_length : (run leaf node names ws [] ≡ made (tree_of names ws)) × (length ws ≤ most_words)
  unfolding parse
  run_and_length = by (ltb most_words (length ws)) refl parsed
    where
      by : (b : Bool) → ltb most_words (length ws) ≡ b → cond b (refused overfull) (run leaf node names ws []) ≡ made (tree_of names ws) →
          (run leaf node names ws [] ≡ made (tree_of names ws)) × (length ws ≤ most_words)
      by true t e = let z : ◌≡◌ {A = ℕ} 0 1 = cc in absurd (omega arith)
      by false t e = (e, ltb-false _ _ t)

  pub accepted_tree : run leaf node names ws [] ≡ made (tree_of names ws)
  accepted_tree = run_and_length.0

  pub accepted_length : length ws ≤ most_words
  accepted_length = run_and_length.1

  -- accepted words, read with a meaning, come to that meaning of their tree
  pub accepted_run : {A : Type 0} (of_leaf : Leaf → A) (of_node : Operator → A → A → A) →
      run of_leaf of_node names ws [] ≡ made (fold of_leaf of_node (tree_of names ws))
  accepted_run of_leaf of_node = run_parse of_leaf of_node names ws ∙ ap (map_outcome (fold of_leaf of_node)) accepted_tree

-- too many words are refused before any is read
pub too_long : (names : Named) (ws : List ℕ) → most_words < length ws → tree_refusal names ws ≡ overfull_tree
unfolding tree_refusal parse
too_long names ws h = rw (lt-ltb most_words (length ws) h)

-- a run that is not refused, word by word: what stands pending before the words, and what they come to
pub data Reads {A : Type 0} (of_leaf : Leaf → A) (of_node : Operator → A → A → A) (names : Named) : List ℕ → List A → A → Type 0 where
  ended : {a : A} → Reads of_leaf of_node names [] (a ∷ []) a
  pushed : {w : ℕ} {ws : List ℕ} {pending : List A} {a : A} → is_operator w ≡ false → is_leaf names w ≡ true → length pending < most_pending →
      Reads of_leaf of_node names ws (of_leaf (leaf_of w) ∷ pending) a → Reads of_leaf of_node names (w ∷ ws) pending a
  joined : {w : ℕ} {ws : List ℕ} {pending : List A} {a b c : A} → is_operator w ≡ true →
      Reads of_leaf of_node names ws (of_node (operator_of w) a b ∷ pending) c → Reads of_leaf of_node names (w ∷ ws) (b ∷ a ∷ pending) c

clash : {A G : Type 0} {f : Fault} {o : Outcome A} {a : A} → o ≡ refused f → o ≡ made a → G
clash p q = let z : ◌≡◌ {A = ℕ} 0 1 = cc in absurd (omega arith)

module _ {A : Type 0} {of_leaf : Leaf → A} {of_node : Operator → A → A → A} {names : Named} where
  reads_next : (w : ℕ) (ws : List ℕ) (a : A) → ((p : List A) → run of_leaf of_node names ws p ≡ made a → Reads of_leaf of_node names ws p a) →
      (pending : List A) → run of_leaf of_node names (w ∷ ws) pending ≡ made a → Reads of_leaf of_node names (w ∷ ws) pending a
  reads_next w ws a onward pending e = by (is_operator w) refl (is_leaf names w) refl
    where
      operator : is_operator w ≡ true → (p : List A) → run of_leaf of_node names (w ∷ ws) p ≡ made a → Reads of_leaf of_node names (w ∷ ws) p a
      operator o [] r = clash (on_few of_leaf of_node names w ws [] o (omega arith)) r
      operator o (y ∷ []) r = clash (on_few of_leaf of_node names w ws (y ∷ []) o (omega arith)) r
      operator o (y ∷ x ∷ p) r = joined o (onward _ (sym (on_operator of_leaf of_node names w ws x y p o) ∙ r))

      room : is_operator w ≡ false → is_leaf names w ≡ true → (b : Bool) → ltb (length pending) most_pending ≡ b → Reads of_leaf of_node names (w ∷ ws) pending a
      room o l true t = pushed o l (ltb-true _ _ t) (onward _ (sym (on_leaf of_leaf of_node names w ws pending o l (ltb-true _ _ t)) ∙ e))
      room o l false t = clash (on_full of_leaf of_node names w ws pending o l (ltb-false _ _ t)) e

      by : (b : Bool) → is_operator w ≡ b → (d : Bool) → is_leaf names w ≡ d → Reads of_leaf of_node names (w ∷ ws) pending a
      by true o d l = operator o pending e
      by false o true l = room o l (ltb (length pending) most_pending) refl
      by false o false l = clash (on_unknown of_leaf of_node names w ws pending o l) e

  pub reads : (ws : List ℕ) (pending : List A) (a : A) → run of_leaf of_node names ws pending ≡ made a → Reads of_leaf of_node names ws pending a
  unfolding run finish
  reads [] [] a e = clash refl e
  reads [] (b ∷ []) a e = let s : b ≡ a = cc in rw s ended
  reads [] (c ∷ b ∷ pending) a e = clash refl e
  reads (w ∷ ws) pending a e = reads_next w ws a (λ p. reads ws p a) pending e

  pub left_one : {ws : List ℕ} {pending : List A} {a : A} → Reads of_leaf of_node names ws pending a → ws ≡ [] → pending ≡ a ∷ []
  left_one ended e = refl
  left_one (pushed o l g r) e = let z : ◌≡◌ {A = ℕ} 0 1 = cc in absurd (omega arith)
  left_one (joined o r) e = let z : ◌≡◌ {A = ℕ} 0 1 = cc in absurd (omega arith)

  pub leaf_next : {w : ℕ} {ws : List ℕ} {pending : List A} {a : A} → Reads of_leaf of_node names (w ∷ ws) pending a → is_operator w ≡ false →
      (is_leaf names w ≡ true) × (length pending < most_pending) × Reads of_leaf of_node names ws (of_leaf (leaf_of w) ∷ pending) a
  leaf_next (pushed p l g r) o = (l, g, r)
  leaf_next (joined p r) o = absurd (false≢true (sym o ∙ p))

  pub two_pending : {w : ℕ} {ws : List ℕ} {pending : List A} {a : A} → Reads of_leaf of_node names (w ∷ ws) pending a → is_operator w ≡ true →
      2 ≤ length pending
  two_pending (pushed p l g r) o = absurd (false≢true (sym p ∙ o))
  two_pending (joined p r) o = omega arith

  pub join_next : {w : ℕ} {ws : List ℕ} {pending : List A} {x y a : A} → Reads of_leaf of_node names (w ∷ ws) (y ∷ x ∷ pending) a → is_operator w ≡ true →
      Reads of_leaf of_node names ws (of_node (operator_of w) x y ∷ pending) a
  join_next (pushed p l g r) o = absurd (false≢true (sym p ∙ o))
  join_next (joined p r) o = r

-- the surfaces of a kind that a tree has are the words that name one: the words of the kind stand above all others that push or join
record Kind (counts : Surface → ℕ) (first most : ℕ) : Type 0 where
  above : 4 < first
  counted : (names : Named) (w : ℕ) → Names names w → counts (surface_of w) ≡ cond (is_among first most w) 1 0

halfspaces : Kind count_halfspace first_halfspace most_rows
halfspaces = record { above = omega arith; counted = by }
  where
    by : (names : Named) (w : ℕ) → Names names w → count_halfspace (surface_of w) ≡ cond (is_among first_halfspace most_rows w) 1 0
    by names w (a_halfspace l h k) = rw (below_halfspace w h, le-leb first_halfspace w l, lt-ltb w (first_halfspace + most_rows) h)
    by names w (a_ball l h k) = rw (above_ball w l, le-leb first_halfspace w (omega arith), le-ltb w (first_halfspace + most_rows) l)

balls : Kind count_ball first_ball most_balls
balls = record { above = omega arith; counted = by }
  where
    by : (names : Named) (w : ℕ) → Names names w → count_ball (surface_of w) ≡ cond (is_among first_ball most_balls w) 1 0
    by names w (a_halfspace l h k) = rw (below_halfspace w h, lt-leb first_ball w h)
    by names w (a_ball l h k) = rw (above_ball w l, le-leb first_ball w l, lt-ltb w (first_ball + most_balls) h)

module _ {counts : Surface → ℕ} {first most : ℕ} (kind : Kind counts first most) where
  counted_of : List Tree → ℕ
  counted_of [] = 0
  counted_of (t ∷ ts) = count_leaves counts t + counted_of ts

  low_word : (w : ℕ) → w ≤ 4 → ◌≡◌ {A = ℕ} (cond (is_among first most w) 1 0) 0
  low_word w h = rw (lt-leb first w (omega (arith, kind.above)))

  leaf_counts : (names : Named) (w : ℕ) → is_leaf names w ≡ true → count_leaves counts (leaf (leaf_of w)) ≡ cond (is_among first most w) 1 0
  unfolding count_leaves
  leaf_counts names zero l = sym (low_word 0 (omega arith))
  leaf_counts names (suc zero) l = sym (low_word 1 (omega arith))
  leaf_counts names (suc (suc w)) l =
      let v = suc (suc w) in
      rw (leaf_surface v (omega arith)) (kind.counted names v (leaf_names names v l (omega arith)))

  operator_counts : (w : ℕ) → is_operator w ≡ true → ◌≡◌ {A = ℕ} (cond (is_among first most w) 1 0) 0
  operator_counts w o = low_word w (leb-true w 4 (and_right (leb 2 w) (leb w 4) o))

  run_counts : {names : Named} {ws : List ℕ} {pending : List Tree} {t : Tree} → Reads leaf node names ws pending t →
      count_leaves counts t ≡ counted_of pending + count_words first most ws
  unfolding count_leaves counted_of count_words
  run_counts ended = omega arith
  run_counts {names} (pushed {w} o l g r) = omega (arith, run_counts r, leaf_counts names w l)
  run_counts (joined {w} o r) = omega (arith, run_counts r, operator_counts w o)

  tree_counts : (names : Named) (ws : List ℕ) → tree_refusal names ws ≡ 0 → count_leaves counts (tree_of names ws) ≡ count_words first most ws
  unfolding counted_of
  tree_counts names ws accepted = omega (arith, run_counts (reads ws [] (tree_of names ws) (accepted_tree names ws accepted)))

pub tree_leaves : (names : Named) (ws : List ℕ) → tree_refusal names ws ≡ 0 → leaves (tree_of names ws) ≡ halfspace_words ws
tree_leaves names ws accepted = tree_counts halfspaces names ws accepted

pub tree_balls : (names : Named) (ws : List ℕ) → tree_refusal names ws ≡ 0 → ball_leaves (tree_of names ws) ≡ ball_words ws
tree_balls names ws accepted = tree_counts balls names ws accepted

pub count_words_most : (first most : ℕ) (ws : List ℕ) → count_words first most ws ≤ length ws
unfolding count_words
count_words_most first most [] = omega arith
count_words_most first most (w ∷ ws) = by (is_among first most w) (count_words_most first most ws)
  where
    by : (b : Bool) → count_words first most ws ≤ length ws → cond b 1 0 + count_words first most ws ≤ suc (length ws)
    by true h = omega arith
    by false h = omega arith

-- every surface of a tree is one of those that its words may name
data EachNamed (names : Named) : List Tree → Type 0 where
  none : EachNamed names []
  more : {t : Tree} {ts : List Tree} → AllNamed names t → EachNamed names ts → EachNamed names (t ∷ ts)

leaf_named : (names : Named) (w : ℕ) → is_leaf names w ≡ true → AllNamed names (leaf (leaf_of w))
leaf_named names zero l = white_named
leaf_named names (suc zero) l = black_named
leaf_named names (suc (suc w)) l =
    let v = suc (suc w) in
    rw (leaf_surface v (omega arith)) (surface_named (by v (leaf_names names v l (omega arith))))
  where
    by : (v : ℕ) → Names names v → IsNamed names (surface_of v)
    by v (a_halfspace a h k) = rw (below_halfspace v h) (halfspace_named k)
    by v (a_ball a h k) = rw (above_ball v a) (ball_named k)

run_named : {names : Named} {ws : List ℕ} {pending : List Tree} {t : Tree} → Reads leaf node names ws pending t → EachNamed names pending → AllNamed names t
run_named ended (more p none) = p
run_named {names} (pushed {w} o l g r) ps = run_named r (more (leaf_named names w l) ps)
run_named (joined o r) (more q (more p ps)) = run_named r (more (node_named p q) ps)

pub tree_named : (names : Named) (ws : List ℕ) → tree_refusal names ws ≡ 0 → AllNamed names (tree_of names ws)
tree_named names ws accepted = run_named (reads ws [] _ (accepted_tree names ws accepted)) none
