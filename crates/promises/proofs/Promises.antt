-- WHAT A CALLER RELIES ON, of the calls themselves: each theorem speaks of what a call answers and leaves in the room lent to it, and of what the room
-- question and the colour question answer. `Promised` (specs/Promises.antt) lists it. Demands 2 and 3 give it, by way of what the contracts fix.
use Prim.Native.Nat.{ℕ, ◌+◌, ◌≤◌}
use mathlib.Core.Path.{◌≡◌, refl, sym, ap, ap₂, ◌∙◌}
use mathlib.Core.Bool.{Bool, true, false}
use mathlib.Core.List.{List, [], ◌∷◌}
use native.Mathlib.Omega.{arith}
use native.Mathlib.Decide.{ℕ_discrete}
use borrow.Author.Tests.{eq-eqb, ne_eqb}
use lib.Dec.{leb}
use lib.ListN.{length}
use Rattle.universe.specs.declared.Universe.{Universe}
use Rattle.universe.specs.Refusals.{no_room}
use Rattle.universe.specs.Universe.{universe_refusal}
use Rattle.universe.specs.Voxel.{window_refusal}
use Rattle.bintree.specs.declared.Colour.{Colour}
use Rattle.bintree.specs.declared.Verdict.{Verdict}
use Rattle.bintree.specs.declared.Verdict.TheVariants.{Clear}
use Rattle.bintree.specs.Told.{WrittenAnswer}
use Rattle.bintree.specs.Shape.{symbols}
use Rattle.bintree.specs.Merging.{merged}
use Rattle.bintree.specs.Answers.{written_answer}
use Rattle.bintree.specs.Verdicts.{verdict}
use Rattle.bintree.proofs.Answers.{written_refused}
use Rattle.bintree.proofs.Shape.{length_symbols}
use Rattle.bintree.proofs.Merging.{merged_size}
use Rattle.csg.specs.Halfspace.{rows_refusal}
use Rattle.csg.specs.Ball.{balls_refusal}
use Rattle.csg.specs.Surfaces.{Surfaces, named}
use Rattle.csg.specs.Tree.{Tree, count_leaves, leaves, ball_leaves}
use Rattle.csg.specs.Words.{tree_refusal, tree_of, halfspace_words, ball_words}
use Rattle.csg.specs.Marks.{tree_colour, intersection_colour}
use Rattle.csg.specs.Raw.{raw, both, blocks_examined}
use Rattle.csg.proofs.Words.{tree_leaves, tree_balls}
use Rattle.demands.specs.Verdicts.{Judges}
use Rattle.demands.proofs.Theorems.{demand_2, demand_3, verdict_of_trees}
use Rattle.demands.proofs.Colours.{both_colour}
use Rattle.convert.specs.Told.{ClearanceAnswer}
use Rattle.convert.specs.Answers.{one_tree_checks, two_trees_checks, one_tree_refusal, two_trees_refusal, clearance_checks, clearance_refusal}
use Rattle.convert.specs.Answers.{clearance_of, raw_of_one, raw_of_two, merged_of_one, merged_of_two}
use Rattle.convert.specs.Answers.{raw_of_one_answer, raw_of_one_buffer, merged_of_one_answer, merged_of_one_buffer}
use Rattle.convert.specs.Answers.{raw_of_two_answer, raw_of_two_buffer, merged_of_two_answer, merged_of_two_buffer, clearance_answer, clearance_buffer}
use Rattle.promises.specs.Promises.{Promised}
use Rattle.promises.proofs.Keeping.{first_accepts, Showing, keeps, length_told}

-- ---- the symbols of a tree show its colours, and fit

module _ (u : Universe) (surfaces : Surfaces) (t : Tree) (n m : ℕ) (ok : universe_refusal u ≡ 0) (e : leaves t ≡ n) (g : ball_leaves t ≡ m)
    (colours : List ℕ → Colour) (same : (v : List ℕ) → tree_colour surfaces u t v ≡ colours v) where
  raw_showing : Showing u n m colours (symbols (raw u surfaces t))
  raw_showing =
      let shown = (demand_2 u ok surfaces t).raw_shows in
      record {
        accepted = ok;
        shape = raw u surfaces t;
        reads = shown.reads;
        shows = λ v w. shown.colours v w ∙ same v;
        fits = rw (e, g) at (demand_3 u ok surfaces t).raw_fits;
      }

  merged_showing : Showing u n m colours (symbols (merged (raw u surfaces t)))
  merged_showing =
      let shown = (demand_2 u ok surfaces t).merged_shows in
      record {
        accepted = ok;
        shape = merged (raw u surfaces t);
        reads = shown.reads;
        shows = λ v w. shown.colours v w ∙ same v;
        fits = rw (e, g) at (demand_3 u ok surfaces t).merged_fits;
      }

  merged_shorter : length (symbols (merged (raw u surfaces t))) ≤ length (symbols (raw u surfaces t))
  merged_shorter = omega (arith, merged_size (raw u surfaces t), length_symbols (raw u surfaces t), length_symbols (merged (raw u surfaces t)))

-- ---- ONE TREE

module _ (u : Universe) (surfaces : Surfaces) (words : List ℕ) (out : List ℕ) where
  abbrev tree : Tree
  tree = tree_of (named surfaces) words

  -- the colour of the whole tree of those words at a voxel's centre
  abbrev colours : List ℕ → Colour
  colours = tree_colour surfaces u tree

  module _ (z : one_tree_refusal u surfaces words ≡ 0) where
    pub checks : (universe_refusal u ≡ 0) × (tree_refusal (named surfaces) words ≡ 0)
    unfolding one_tree_checks
    checks =
        let fourth = tree_refusal (named surfaces) words in
        let balls = balls_refusal u surfaces.balls in
        let rows = rows_refusal u surfaces.rows in
        let a = first_accepts (universe_refusal u) (rows ∷ balls ∷ fourth ∷ []) z in
        let b = first_accepts rows (balls ∷ fourth ∷ []) a.1 in
        let c = first_accepts balls (fourth ∷ []) b.1 in
        (a.0, (first_accepts fourth [] c.1).0)

    few : leaves tree ≡ halfspace_words words
    few = tree_leaves (named surfaces) words checks.1

    few_balls : ball_leaves tree ≡ ball_words words
    few_balls = tree_balls (named surfaces) words checks.1

  pub raw_of_one_lem : Promised u (one_tree_refusal u surfaces words) (halfspace_words words) (ball_words words) colours out
      (raw_of_one_answer u surfaces words out) (raw_of_one_buffer u surfaces words out)
  unfolding raw_of_one_answer raw_of_one_buffer raw_of_one
  raw_of_one_lem = keeps u _ _ _ colours out _ (λ z. raw_showing u surfaces tree _ _ (checks z).0 (few z) (few_balls z) colours (λ v. refl))

  pub merged_of_one_lem : Promised u (one_tree_refusal u surfaces words) (halfspace_words words) (ball_words words) colours out
      (merged_of_one_answer u surfaces words out) (merged_of_one_buffer u surfaces words out)
  unfolding merged_of_one_answer merged_of_one_buffer merged_of_one
  merged_of_one_lem = keeps u _ _ _ colours out _ (λ z. merged_showing u surfaces tree _ _ (checks z).0 (few z) (few_balls z) colours (λ v. refl))

  -- the raw length, written or needed, is the number of blocks examined, and the merged one is at most that
  pub raw_of_one_blocks : one_tree_refusal u surfaces words ≡ 0 → (raw_of_one_answer u surfaces words out).length ≡ blocks_examined u surfaces tree
  unfolding raw_of_one_answer raw_of_one
  raw_of_one_blocks z =
      length_told _ out _ z
      ∙ (demand_3 u (checks z).0 surfaces tree).raw_counts

  pub merged_of_one_blocks : one_tree_refusal u surfaces words ≡ 0 → (merged_of_one_answer u surfaces words out).length ≤ blocks_examined u surfaces tree
  unfolding merged_of_one_answer merged_of_one
  merged_of_one_blocks z =
      omega (
        arith,
        length_told _ out (merged_of_one u surfaces words) z,
        merged_shorter u surfaces tree _ _ (checks z).0 (few z) (few_balls z) colours (λ v. refl),
        (demand_3 u (checks z).0 surfaces tree).raw_counts,
      )

-- ---- a verdict's answer, by what was written

module _ (written : WrittenAnswer) (v : Verdict) where
  number_told : (clearance_of written v).refusal ≡ written.refusal
  number_told = go (ℕ_discrete written.refusal 0)
    where
      go : Dec (written.refusal ≡ 0) → (clearance_of written v).refusal ≡ written.refusal
      go (yes z) = rw (eq-eqb written.refusal 0 z) (sym z)
      go (no n) = rw (ne_eqb written.refusal 0 n)

  symbols_told : (clearance_of written v).length ≡ written.length
  symbols_told = go (ℕ_discrete written.refusal 0)
    where
      go : Dec (written.refusal ≡ 0) → (clearance_of written v).length ≡ written.length
      go (yes z) = rw (eq-eqb written.refusal 0 z)
      go (no n) = rw (ne_eqb written.refusal 0 n)

  as_written : ◌≡◌ {A = WrittenAnswer} written (record { refusal = (clearance_of written v).refusal; length = (clearance_of written v).length })
  as_written = λ i. record { refusal = sym number_told i; length = sym symbols_told i }

  verdict_told : written.refusal ≡ 0 → (clearance_of written v).verdict ≡ v
  verdict_told z = rw (eq-eqb written.refusal 0 z)

  clear_told : (written.refusal ≡ 0 → ⊥) → (clearance_of written v).verdict ≡ Clear
  clear_told n = rw (ne_eqb written.refusal 0 n)

-- a call that answers 0 passed its checks before 6
pub passed : (before : ℕ) (out written : List ℕ) → (written_answer before out written).refusal ≡ 0 → before ≡ 0
passed before out written e = go (ℕ_discrete before 0)
  where
    go : Dec (before ≡ 0) → before ≡ 0
    go (yes z) = z
    go (no n) = absurd (n (ap (λ (w : WrittenAnswer). w.refusal) (written_refused before out written n) ∙ e))

-- and one that is not refused for room is refused as its checks before 6 say
pub unless_six : (before : ℕ) (out written : List ℕ) → ((written_answer before out written).refusal ≡ no_room → ⊥) →
    (written_answer before out written).refusal ≡ before
unfolding written_answer
unless_six before out written n = go (ℕ_discrete before 0)
  where
    fits : before ≡ 0 → (t : Bool) → leb (length written) (length out) ≡ t → (written_answer before out written).refusal ≡ before
    fits z true e = rw (eq-eqb before 0 z, e) (sym z)
    fits z false e = absurd (n (rw (eq-eqb before 0 z, e)))

    go : Dec (before ≡ 0) → (written_answer before out written).refusal ≡ before
    go (yes z) = fits z (leb (length written) (length out)) refl
    go (no k) = sym (ap (λ (w : WrittenAnswer). w.refusal) (written_refused before out written k))

-- ---- TWO TREES, intersected

module _ (u : Universe) (surfaces : Surfaces) (first second : List ℕ) where
  abbrev tree₁ : Tree
  tree₁ = tree_of (named surfaces) first

  abbrev tree₂ : Tree
  tree₂ = tree_of (named surfaces) second

  -- a voxel is black where both trees are at its centre
  abbrev shared : List ℕ → Colour
  shared v = intersection_colour (tree_colour surfaces u tree₁ v) (tree_colour surfaces u tree₂ v)

  abbrev words : ℕ
  words = halfspace_words first + halfspace_words second

  abbrev balls : ℕ
  balls = ball_words first + ball_words second

  module _ (z : two_trees_refusal u surfaces first second ≡ 0) where
    pub accepts : (universe_refusal u ≡ 0) × ((tree_refusal (named surfaces) first ≡ 0) × (tree_refusal (named surfaces) second ≡ 0))
    unfolding two_trees_checks
    accepts =
        let fifth = tree_refusal (named surfaces) second in
        let fourth = tree_refusal (named surfaces) first in
        let third = balls_refusal u surfaces.balls in
        let rows = rows_refusal u surfaces.rows in
        let a = first_accepts (universe_refusal u) (rows ∷ third ∷ fourth ∷ fifth ∷ []) z in
        let b = first_accepts rows (third ∷ fourth ∷ fifth ∷ []) a.1 in
        let c = first_accepts third (fourth ∷ fifth ∷ []) b.1 in
        let d = first_accepts fourth (fifth ∷ []) c.1 in
        (a.0, (d.0, (first_accepts fifth [] d.1).0))

    few_both : leaves (both tree₁ tree₂) ≡ words
    unfolding count_leaves
    few_both = ap₂ ◌+◌ (tree_leaves (named surfaces) first accepts.1.0) (tree_leaves (named surfaces) second accepts.1.1)

    balls_both : ball_leaves (both tree₁ tree₂) ≡ balls
    unfolding count_leaves
    balls_both = ap₂ ◌+◌ (tree_balls (named surfaces) first accepts.1.0) (tree_balls (named surfaces) second accepts.1.1)

    raw_shown : Showing u words balls shared (raw_of_two u surfaces first second)
    unfolding raw_of_two
    raw_shown = raw_showing u surfaces (both tree₁ tree₂) words balls accepts.0 few_both balls_both shared (both_colour surfaces u tree₁ tree₂)

    merged_shown : Showing u words balls shared (merged_of_two u surfaces first second)
    unfolding merged_of_two
    merged_shown = merged_showing u surfaces (both tree₁ tree₂) words balls accepts.0 few_both balls_both shared (both_colour surfaces u tree₁ tree₂)

  module _ (out : List ℕ) where
    pub raw_of_two_lem : Promised u (two_trees_refusal u surfaces first second) words balls shared out
        (raw_of_two_answer u surfaces first second out) (raw_of_two_buffer u surfaces first second out)
    unfolding raw_of_two_answer raw_of_two_buffer
    raw_of_two_lem = keeps u _ words balls shared out (raw_of_two u surfaces first second) raw_shown

    pub merged_of_two_lem : Promised u (two_trees_refusal u surfaces first second) words balls shared out
        (merged_of_two_answer u surfaces first second out) (merged_of_two_buffer u surfaces first second out)
    unfolding merged_of_two_answer merged_of_two_buffer
    merged_of_two_lem = keeps u _ words balls shared out (merged_of_two u surfaces first second) merged_shown

    -- the raw length, written or needed, is the number of blocks examined, and the merged one is at most that
    pub raw_of_two_blocks : two_trees_refusal u surfaces first second ≡ 0 →
        (raw_of_two_answer u surfaces first second out).length ≡ blocks_examined u surfaces (both tree₁ tree₂)
    unfolding raw_of_two_answer raw_of_two
    raw_of_two_blocks z =
        length_told _ out (raw_of_two u surfaces first second) z
        ∙ (demand_3 u (accepts z).0 surfaces (both tree₁ tree₂)).raw_counts

    pub merged_of_two_blocks : two_trees_refusal u surfaces first second ≡ 0 →
        (merged_of_two_answer u surfaces first second out).length ≤ blocks_examined u surfaces (both tree₁ tree₂)
    unfolding merged_of_two_answer merged_of_two
    merged_of_two_blocks z =
        omega (
          arith,
          length_told _ out (merged_of_two u surfaces first second) z,
          merged_shorter u surfaces (both tree₁ tree₂) words balls (accepts z).0 (few_both z) (balls_both z) shared (both_colour surfaces u tree₁ tree₂),
          (demand_3 u (accepts z).0 surfaces (both tree₁ tree₂)).raw_counts,
        )

    -- ---- THE VERDICT of two trees over the frames from `from` to `to`, both ends in

    module _ (from to : ℕ) where
      abbrev given : ClearanceAnswer
      given = clearance_answer u surfaces first second from to out

      pub window_accepted : clearance_refusal u surfaces first second from to ≡ 0 → (two_trees_refusal u surfaces first second ≡ 0) × (window_refusal u from to ≡ 0)
      unfolding clearance_checks
      window_accepted z =
          let a = first_accepts (two_trees_refusal u surfaces first second) (window_refusal u from to ∷ []) z in
          (a.0, (first_accepts (window_refusal u from to) [] a.1).0)

      abbrev written : WrittenAnswer
      written = written_answer (clearance_refusal u surfaces first second from to) out (raw_of_two u surfaces first second)

      -- of the room lent, all that is promised of the raw conversion
      pub verdict_of_two : Promised u (clearance_refusal u surfaces first second from to) words balls shared out
          (record { refusal = given.refusal; length = given.length }) (clearance_buffer u surfaces first second from to out)
      unfolding clearance_answer clearance_buffer
      verdict_of_two =
          rw (← as_written written (verdict u (raw u surfaces (both tree₁ tree₂)) from to))
          (keeps u _ words balls shared out (raw_of_two u surfaces first second) (λ z. raw_shown (window_accepted z).0))

      -- Hit exactly if some voxel of the window is black in both trees, with the first and the last frame of such a voxel and their number
      pub verdict_says : given.refusal ≡ 0 → Judges u shared from to given.verdict
      unfolding clearance_answer
      verdict_says r =
          let v = verdict u (raw u surfaces (both tree₁ tree₂)) from to in
          let z = sym (number_told written v) ∙ r in
          let w = window_accepted (passed _ out (raw_of_two u surfaces first second) z) in
          rw (verdict_told written v z) (verdict_of_trees u (accepts w.0).0 surfaces tree₁ tree₂ from to w.1)

      -- a call that answers 0 passed its checks, and its verdict is that of the trees' raw shape
      pub verdict_passed : given.refusal ≡ 0 → clearance_refusal u surfaces first second from to ≡ 0
      unfolding clearance_answer
      verdict_passed r =
          let v = verdict u (raw u surfaces (both tree₁ tree₂)) from to in
          passed _ out (raw_of_two u surfaces first second) (sym (number_told written v) ∙ r)

      pub verdict_is_lem : given.refusal ≡ 0 → given.verdict ≡ verdict u (raw u surfaces (both tree₁ tree₂)) from to
      unfolding clearance_answer
      verdict_is_lem r =
          let v = verdict u (raw u surfaces (both tree₁ tree₂)) from to in
          verdict_told written v (sym (number_told written v) ∙ r)

      -- where it is not refused for room, its number is that of the checks before
      pub verdict_number : (given.refusal ≡ no_room → ⊥) → given.refusal ≡ clearance_refusal u surfaces first second from to
      unfolding clearance_answer
      verdict_number n =
          let v = verdict u (raw u surfaces (both tree₁ tree₂)) from to in
          number_told written v
          ∙ unless_six (clearance_refusal u surfaces first second from to) out (raw_of_two u surfaces first second) (λ z. n (number_told written v ∙ z))

      -- whatever is refused is Clear
      pub verdict_refused : (given.refusal ≡ 0 → ⊥) → given.verdict ≡ Clear
      unfolding clearance_answer
      verdict_refused n =
          let v = verdict u (raw u surfaces (both tree₁ tree₂)) from to in
          clear_told written v (λ z. n (number_told written v ∙ z))
