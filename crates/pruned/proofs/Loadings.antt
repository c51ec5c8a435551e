-- The loop of loading. The nodes of the shapes pending stand one after the other from the first place on, as many as words were read; a leaf's node comes
-- behind them, an operator's behind the two last, of which MINUS turns over the later. At the end they are those of the tree that the words make.
use Prim.Native.Nat.{ℕ, zero, suc, ◌+◌, ◌*◌, ◌-◌, ◌≤◌, ◌<◌}
use native.Mathlib.Omega.{arith}
use mathlib.Core.Path.{◌≡◌, refl, sym, ap, ap₂, subst, ◌∙◌}
use mathlib.Core.Bool.{Bool, true, false, cond}
use mathlib.Core.List.{List, [], ◌∷◌, ◌++◌, append_assoc}
use borrow.Author.Tests.{leb-true, ne_eqb}
use lib.Dec.{leb, eqb}
use lib.IntN.{ℤ, pos}
use lib.ListN.{length, get_or, drop, set, replicate, length-append, length-set}
use Rattle.lemmas.proofs.Sums.{and_left, and_right}
use Rattle.universe.specs.declared.Universe.{Universe}
use Rattle.universe.specs.declared.Block.{Block}
use Rattle.universe.specs.Universe.{most_axes}
use Rattle.bintree.specs.declared.Colour.TheVariants.{White, Black}
use Rattle.csg.specs.Halfspace.{most_rows, row_at, row_count, least, greatest}
use Rattle.csg.specs.Ball.{most_balls}
use Rattle.csg.specs.Surfaces.{Surfaces, Surface, halfspace, ball, Named, named, IsNamed, halfspace_named, ball_named}
use Rattle.csg.specs.Tree.{Leaf, white, black, surface, Operator, Plain, colour, side, union_of, intersection_of, plain}
use Rattle.csg.specs.Words.{most_pending, made, first_halfspace, first_ball, surface_of, is_operator, operator_of, is_leaf, leaf_of, tree_of}
use Rattle.csg.proofs.Tree.{turned}
use Rattle.csg.proofs.Words.{Names, a_halfspace, a_ball, leaf_names, leaf_surface, below_halfspace, above_ball, next}
use Rattle.csg.proofs.Words.{Reads, reads, accepted_length, accepted_run, leaf_next, two_pending, join_next, left_one}
use Rattle.convert.proofs.Blocks.{side_small}
use Rattle.pruned.specs.declared.leaf.Extremes.{Extremes}
use Rattle.pruned.specs.Nodes.{Node, of_colour, of_side, joining, postfix, node_code, least_of, greatest_of, number_at, stored, Holds, nothing, node}
use Rattle.pruned.specs.Nodes.{SidesNamed, colour_named, side_named, union_named, intersection_named, SmallExtreme, code_limit, Storable, most_shapes}
use Rattle.pruned.specs.Loading.{whole_extremes, WholeReady, turn_nodes, SmallCodes, no_codes, code_small, Turning, Turned}
use Rattle.pruned.specs.Loading.{leaf_node, meets, turned_for, Joining, Joined, Sources, whole_of, LeafWord, LeafValues, Loading, Loaded}
use Rattle.pruned.proofs.Loads.{plain_leaf, plain_node, plain_fold, turn_postfix}
use Rattle.pruned.proofs.Memory.{stored_long, stored_below, holds_same, holds_front, holds_join, holds_more}
use Rattle.pruned.proofs.Moving.{held, extreme_near}
use Rattle.pruned.proofs.Stacks.{stack_of, length_stack, stack_push, stack_last}
use Rattle.pruned.proofs.Steps.{ok, rows_few, balls_few, rows_small, standing_small}
use Rattle.pruned.proofs.Wholes.{whole_values}

-- ---- a leaf's word
pub leaf_code_is : (names : Named) (w : ℕ) → is_leaf names w ≡ true → node_code (leaf_node (leaf_of w)) ≡ 2 * w
leaf_code_is names zero l = refl
leaf_code_is names (suc zero) l = refl
leaf_code_is names (suc (suc w)) l =
    let v = suc (suc w) in
    rw (leaf_surface v (omega arith)) (by v (leaf_names names v l (omega arith)))
  where
    by : (v : ℕ) → Names names v → node_code (leaf_node (surface (surface_of v))) ≡ 2 * v
    by v (a_halfspace a h k) = rw (below_halfspace v h) (omega arith)
    by v (a_ball a h k) = rw (above_ball v a) (omega arith)

pub leaf_postfix : (l : Leaf) → postfix (plain_leaf l) ≡ leaf_node l ∷ []
unfolding postfix
leaf_postfix white = refl
leaf_postfix black = refl
leaf_postfix (surface s) = refl

pub leaf_sides : (names : Named) (w : ℕ) → is_leaf names w ≡ true → SidesNamed names (plain_leaf (leaf_of w))
leaf_sides names zero l = colour_named
leaf_sides names (suc zero) l = colour_named
leaf_sides names (suc (suc w)) l =
    let v = suc (suc w) in
    rw (leaf_surface v (omega arith)) (side_named (by v (leaf_names names v l (omega arith))))
  where
    by : (v : ℕ) → Names names v → IsNamed names (surface_of v)
    by v (a_halfspace a h k) = rw (below_halfspace v h) (halfspace_named k)
    by v (a_ball a h k) = rw (above_ball v a) (ball_named k)

-- ---- an operator's word
pub operator_is : (w : ℕ) → is_operator w ≡ true → (2 ≤ w) × (w ≤ 4)
operator_is w o = (leb-true _ _ (and_left (leb 2 w) (leb w 4) o), leb-true _ _ (and_right (leb 2 w) (leb w 4) o))

pub node_postfix : (w : ℕ) → is_operator w ≡ true → (p q : Plain) →
    postfix (plain_node (operator_of w) p q) ≡ postfix p ++ (turned_for w (postfix q) ++ (joining (meets w) ∷ []))
unfolding postfix
node_postfix zero o p q = absurd (omega (arith, (operator_is 0 o).0))
node_postfix (suc zero) o p q = absurd (omega (arith, (operator_is 1 o).0))
node_postfix (suc (suc zero)) o p q = refl
node_postfix (suc (suc (suc zero))) o p q = refl
node_postfix (suc (suc (suc (suc zero)))) o p q = rw (turn_postfix q)
node_postfix (suc (suc (suc (suc (suc w))))) o p q = absurd (omega (arith, (operator_is (suc (suc (suc (suc (suc w))))) o).1))

-- the node of an operator but MINUS
pub operator_code : (w : ℕ) → 2 ≤ w → w < 4 → node_code (joining (meets w)) ≡ 2 * w
operator_code zero a b = absurd (omega arith)
operator_code (suc zero) a b = absurd (omega arith)
operator_code (suc (suc zero)) a b = refl
operator_code (suc (suc (suc zero))) a b = refl
operator_code (suc (suc (suc (suc w)))) a b = absurd (omega arith)

turned_sides : {names : Named} (p : Plain) → SidesNamed names p → SidesNamed names (turned p)
unfolding turned
turned_sides (colour c) n = colour_named
turned_sides (side flag s) (side_named n) = side_named n
turned_sides (union_of p q) (union_named n m) = intersection_named (turned_sides p n) (turned_sides q m)
turned_sides (intersection_of p q) (intersection_named n m) = union_named (turned_sides p n) (turned_sides q m)

pub node_sides : {names : Named} (o : Operator) (p q : Plain) → SidesNamed names p → SidesNamed names q → SidesNamed names (plain_node o p q)
node_sides Operator.union p q n m = union_named n m
node_sides Operator.intersection p q n m = intersection_named n m
node_sides Operator.minus p q n m = intersection_named n (turned_sides q m)

-- ---- codes are small
small_append : (ns ms : List Node) → SmallCodes ns → SmallCodes ms → SmallCodes (ns ++ ms)
small_append [] ms no_codes t = t
small_append (n ∷ ns) ms (code_small h s) t = code_small h (small_append ns ms s t)

module _ {names : Named} (few_rows : names.halfspaces ≤ most_rows) (few_balls : names.balls ≤ most_balls) where
  side_small_code : (flag : Bool) (s : Surface) → IsNamed names s → node_code (of_side flag s) + 1 < code_limit
  side_small_code true (halfspace i) (halfspace_named h) = omega (arith, h)
  side_small_code false (halfspace i) (halfspace_named h) = omega (arith, h)
  side_small_code true (ball i) (ball_named h) = omega (arith, h)
  side_small_code false (ball i) (ball_named h) = omega (arith, h)

  pub small_codes : (p : Plain) → SidesNamed names p → SmallCodes (postfix p)
  unfolding postfix
  small_codes (colour White) n = code_small {n = of_colour White} (omega arith) no_codes
  small_codes (colour Black) n = code_small {n = of_colour Black} (omega arith) no_codes
  small_codes (side flag s) (side_named n) = code_small (side_small_code flag s n) no_codes
  small_codes (union_of p q) (union_named n m) =
      small_append (postfix p) _ (small_codes p n) (small_append (postfix q) _ (small_codes q m) (code_small {n = joining false} (omega arith) no_codes))
  small_codes (intersection_of p q) (intersection_named n m) =
      small_append (postfix p) _ (small_codes p n) (small_append (postfix q) _ (small_codes q m) (code_small {n = joining true} (omega arith) no_codes))

pub drop_end : (i : ℕ) (l : List ℕ) → length l ≤ i → drop i l ≡ []
drop_end zero [] h = refl
drop_end zero (x ∷ l) h = absurd (omega arith)
drop_end (suc i) [] h = refl
drop_end (suc i) (x ∷ l) h = drop_end i l (omega arith)

-- nodes behind others
holds_behind : {surfaces : Surfaces} {b : Block} {work : List ℤ} {at : ℕ} (ns ms : List Node) → Holds surfaces b work at (ns ++ ms) →
    Holds surfaces b work (at + length ns) ms
holds_behind {at = at} [] ms h = let e : at + 0 ≡ at = omega arith in rw e h
holds_behind {at = at} (n ∷ ns) ms (node x h) = let e : at + suc (length ns) ≡ suc at + length ns = omega arith in rw e (holds_behind ns ms h)

abbrev pub rest : List ℕ → List ℕ
rest [] = []
rest (x ∷ l) = l

pub turn_long : (ns : List Node) → length (turn_nodes ns) ≡ length ns
unfolding turn_nodes
turn_long [] = refl
turn_long (n ∷ ns) = ap suc (turn_long ns)

pub turned_long : (w : ℕ) (ns : List Node) → length (turned_for w ns) ≡ length ns
turned_long w ns = by (eqb w 4)
  where
    by : (t : Bool) → length (cond t (turn_nodes ns) ns) ≡ length ns
    by true = turn_long ns
    by false = refl

-- ---- an operator's word loaded
zero_small : SmallExtreme (pos 0)
zero_small = record { most = omega arith }

module _ {work : List ℤ} {start at word : ℕ} (job : Joining work start at word) where
  word_few : (2 ≤ word) × (word ≤ 4)
  word_few = operator_is word job.operator

  pub turning_asks : Turning work start at
  turning_asks =
      record {
        surfaces = job.surfaces;
        block = job.block;
        nodes = job.nodes;
        small = job.small;
        holds = job.holds;
        ends = job.ends;
        inside = omega (arith, job.inside);
        bounded = job.bounded;
      }

  -- a node behind nodes that stand from the start up to the place
  behind : {now after : List ℤ} (meet : Bool) (ns : List Node) → Holds job.surfaces job.block now start ns → length ns ≡ length job.nodes →
      length now ≡ length work → after ≡ stored now at (pos (node_code (joining meet))) (pos 0) (pos 0) →
      Holds job.surfaces job.block after start (ns ++ (joining meet ∷ []))
  behind {now} meet ns h e l a = rw a (holds_more ns (joining meet) h (omega (arith, job.ends)) (omega (arith, job.inside)))

  module _ (minus : word ≡ 4) {now : List ℤ} (t : Turned turning_asks now) where
    pub joined_turned : {after : List ℤ} → after ≡ stored now at (pos 6) (pos 0) (pos 0) → Joined job after
    unfolding turning_asks
    joined_turned {after} a =
        let h = behind {now = now} {after = after} true (turn_nodes job.nodes) t.holds (turn_long job.nodes) t.long a in
        record {
          holds = rw minus h;
          below = record {
            same = λ k l. rw a (stored_below now at (pos 6) (pos 0) (pos 0) k (omega (arith, job.ends)) ∙ t.same_below k l);
            long = rw a (stored_long now at (pos 6) (pos 0) (pos 0) ∙ t.long);
          };
        }

  module _ (other : word ≡ 4 → ⊥) where
    code_of : node_code (joining (meets word)) ≡ 2 * word
    code_of = operator_code word word_few.0 (omega (arith, other, word_few.1))

    pub joined_plain : {after : List ℤ} → after ≡ stored work at (pos (2 * word)) (pos 0) (pos 0) → Joined job after
    joined_plain {after} a =
        let h = behind {now = work} {after = after} (meets word) job.nodes job.holds refl refl (a
        ∙ ap (λ (c : ℕ). stored work at (pos c) (pos 0) (pos 0)) (sym code_of)) in
        record {
          holds = rw (ne_eqb word 4 other) h;
          below = record {
            same = λ k l. rw a (stored_below work at (pos (2 * word)) (pos 0) (pos 0) k (omega (arith, job.ends)));
            long = rw a (stored_long work at (pos (2 * word)) (pos 0) (pos 0));
          };
        }

-- ---- a leaf's values over the whole universe
zeros : (n i : ℕ) → ◌≡◌ {A = ℕ} (get_or (replicate n 0) i 0) 0
zeros zero i = refl
zeros (suc n) zero = refl
zeros (suc n) (suc i) = zeros n i

module _ {axes : ℕ} {rows : List ℤ} {sides : List ℕ} (from : Sources axes rows sides) where
  abbrev u : Universe
  u = from.universe

  abbrev names : Named
  names = named from.surfaces

  abbrev whole : Block
  whole = whole_of u

  module _ (i : ℕ) (l : i < row_count from.surfaces.rows) where
    named_row : i < row_count rows
    named_row = rw from.rows_are l

    ready : WholeReady axes rows i sides
    ready =
        record {
          some = rw from.axes_are (ok from.scene).some_axes;
          few = rw from.axes_are (ok from.scene).few_axes;
          named = named_row;
          small = rw from.rows_are (rows_small from.scene i l);
          sides = side_small from.standing;
        }

    values_are : ((whole_extremes axes (row_at rows i) sides).least ≡ least_of from.surfaces whole (of_side false (halfspace i)))
        × ((whole_extremes axes (row_at rows i) sides).greatest ≡ greatest_of from.surfaces whole (of_side false (halfspace i)))
    values_are =
        let v = whole_values ready whole from.axes_are (λ j m. zeros most_axes j) (λ j m. from.standing.along j m) in (
          v.0 ∙ ap (λ (rs : List ℤ). least (row_at rs i) whole) from.rows_are,
          v.1 ∙ ap (λ (rs : List ℤ). greatest (row_at rs i) whole) from.rows_are,
        )

    row_small : SmallExtreme (least_of from.surfaces whole (of_side false (halfspace i))) × SmallExtreme (greatest_of from.surfaces whole (of_side false
        (halfspace i)))
    row_small = standing_small (ok from.scene).few_axes from.standing (row_at from.surfaces.rows i) (rows_small from.scene i l)

  leaf_small : (w : ℕ) → is_leaf names w ≡ true →
      SmallExtreme (least_of from.surfaces whole (leaf_node (leaf_of w))) × SmallExtreme (greatest_of from.surfaces whole (leaf_node (leaf_of w)))
  leaf_small zero l = (zero_small, zero_small)
  leaf_small (suc zero) l = (zero_small, zero_small)
  leaf_small (suc (suc w)) l =
      let v = suc (suc w) in
      rw (leaf_surface v (omega arith)) (by v (leaf_names names v l (omega arith)))
    where
      by : (v : ℕ) → Names names v → SmallExtreme (least_of from.surfaces whole (leaf_node (surface (surface_of v))))
          × SmallExtreme (greatest_of from.surfaces whole (leaf_node (surface (surface_of v))))
      by v (a_halfspace a h k) = rw (below_halfspace v h) (row_small (v - first_halfspace) k)
      by v (a_ball a h k) = rw (above_ball v a) (zero_small, zero_small)

module _ {axes : ℕ} {rows : List ℤ} {sides : List ℕ} {word : ℕ} (job : LeafWord axes rows sides word) where
  module _ (a : first_halfspace ≤ word) (b : word < first_ball) where
    row_there : word - first_halfspace < row_count job.sources.surfaces.rows
    row_there = by (leaf_names (names job.sources) word job.leaf (omega arith))
      where
        by : Names (names job.sources) word → word - first_halfspace < row_count job.sources.surfaces.rows
        by (a_halfspace c d k) = k
        by (a_ball c d k) = absurd (omega arith)

    pub whole_ready : WholeReady axes rows (word - first_halfspace) sides
    whole_ready = ready job.sources (word - first_halfspace) row_there

    pub values_halfspace : {e : Extremes} → e ≡ whole_extremes axes (row_at rows (word - first_halfspace)) sides → LeafValues job e.least e.greatest
    values_halfspace {e} f =
        let v = values_are job.sources (word - first_halfspace) row_there in
        record {
          least_is = rw (leaf_surface word (omega arith), below_halfspace word b) (ap (λ (x : Extremes). x.least) f ∙ v.0);
          greatest_is = rw (leaf_surface word (omega arith), below_halfspace word b) (ap (λ (x : Extremes). x.greatest) f ∙ v.1);
        }

-- ---- the loop
-- the nodes of the shapes pending, the last one first, and where each starts
abbrev pub loaded : List Plain → List Node
loaded [] = []
loaded (p ∷ ps) = loaded ps ++ postfix p

abbrev pub starts_from : ℕ → List Plain → List ℕ
starts_from from [] = []
starts_from from (p ∷ ps) = (from + length (loaded ps)) ∷ starts_from from ps

pub length_starts : (from : ℕ) (ps : List Plain) → length (starts_from from ps) ≡ length ps
length_starts from [] = refl
length_starts from (p ∷ ps) = ap suc (length_starts from ps)

abbrev pub AllSides : Named → List Plain → Type 0
AllSides names [] = Unit {0}
AllSides names (p ∷ ps) = SidesNamed names p × AllSides names ps

module _ {axes : ℕ} {rows : List ℤ} {sides words : List ℕ} {work : List ℤ} {from : ℕ} {starts₀ : List ℕ} where
  pub record Loads (job : Loading axes rows sides words work from starts₀) (now : List ℤ) (starts : List ℕ) (pending i : ℕ) : Type 0 where
    pub shapes : List Plain
    pub reads : Reads plain_leaf plain_node (named job.sources.surfaces) (drop i words) shapes (plain (tree_of (named job.sources.surfaces) words))
    pub sides_named : AllSides (named job.sources.surfaces) shapes
    pub few : pending ≤ most_pending
    pub most : i ≤ length words
    pub starts_long : length starts ≡ most_shapes
    pub starts_are : stack_of starts pending ≡ starts_from from shapes
    pub count_is : i ≡ length (loaded shapes)
    pub done : Holds job.sources.surfaces (whole_of job.sources.universe) now from (loaded shapes)
    pub same : (k : ℕ) → k < 3 * from → number_at now k ≡ number_at work k
    pub long : length now ≡ length work

  module _ (job : Loading axes rows sides words work from starts₀) where
    abbrev names' : Named
    names' = named job.sources.surfaces

    abbrev tree : Plain
    tree = plain (tree_of names' words)

    abbrev block : Block
    block = whole_of job.sources.universe

    pub loads_start : Loads job work starts₀ 0 0
    loads_start =
        record {
          shapes = [];
          reads = reads words [] tree (accepted_run names' words job.accepted plain_leaf plain_node ∙ ap made (plain_fold (tree_of names' words)));
          sides_named = tt;
          few = omega arith;
          most = omega arith;
          starts_long = job.starts_long;
          starts_are = refl;
          count_is = refl;
          done = nothing;
          same = λ k h. refl;
          long = refl;
        }

    module _ {now : List ℤ} {starts : List ℕ} {pending i : ℕ} (g : Loads job now starts pending i) where
      pending_is : pending ≡ length g.shapes
      pending_is = sym (length_stack starts pending) ∙ ap length g.starts_are ∙ length_starts from g.shapes

      module _ (h : i < length words) where
        abbrev word : ℕ
        word = get_or words i 0

        reads_on : Reads plain_leaf plain_node names' (word ∷ drop (i + 1) words) g.shapes tree
        reads_on = rw (next words i h) at g.reads

        pub place_few : i < 255
        place_few = omega (arith, accepted_length names' words job.accepted)

        pub inside : 3 * (from + i) + 2 < length now
        inside = omega (arith, job.inside, g.long)

        -- a leaf
        module _ (o : is_operator word ≡ false) where
          abbrev l : (is_leaf names' word ≡ true) × (length g.shapes < most_pending)
              × Reads plain_leaf plain_node names' (drop (i + 1) words) (plain_leaf (leaf_of word) ∷ g.shapes) tree
          l = leaf_next reads_on o

          pub leaf_word : LeafWord axes rows sides word
          leaf_word = record { sources = job.sources; leaf = l.0 }

          pub leaf_room : pending < most_pending
          leaf_room = omega (arith, pending_is, l.1)

          abbrev n : Node
          n = leaf_node (leaf_of word)

          code_few : node_code n + 1 < code_limit
          code_few = by (small_codes (rows_few job.sources.universe job.sources.surfaces.rows job.sources.scene.accepted_rows)
              (balls_few job.sources.universe job.sources.surfaces.balls job.sources.scene.accepted_balls)
              (plain_leaf (leaf_of word)) (leaf_sides names' word l.0))
            where
              by : SmallCodes (postfix (plain_leaf (leaf_of word))) → node_code n + 1 < code_limit
              by s = go (rw (leaf_postfix (leaf_of word)) at s)
                where
                  go : SmallCodes (n ∷ []) → node_code n + 1 < code_limit
                  go (code_small a b) = a

          pub word_small : 2 * word < code_limit
          word_small = omega (arith, code_few, leaf_code_is names' word l.0)

          module _ {x y : ℤ} (v : LeafValues leaf_word x y) where
            pub leaf_few : SmallExtreme x × SmallExtreme y
            unfolding leaf_word
            leaf_few = rw (v.least_is, v.greatest_is) (leaf_small job.sources word l.0)

            same_values : (held x ≡ x) × (held y ≡ y)
            same_values = ((extreme_near leaf_few.0).same, (extreme_near leaf_few.1).same)

            pub leaf_storable : Storable now (from + i) (2 * word) (held x) (held y)
            leaf_storable =
                record {
                  inside = inside;
                  small = word_small;
                  small_low = rw same_values.0 leaf_few.0;
                  small_high = rw same_values.1 leaf_few.1;
                }

            pub loads_leaf : {after : List ℤ} → after ≡ stored now (from + i) (pos (2 * word)) (held x) (held y) →
                Loads job after (set starts pending (from + i)) (pending + 1) (i + 1)
            unfolding leaf_word
            loads_leaf {after} a =
                let stood = stored now (from + i) (pos (node_code n)) (least_of job.sources.surfaces block n) (greatest_of job.sources.surfaces block n) in
                let e : after ≡ stood = a ∙ rw (same_values.0, same_values.1, leaf_code_is names' word l.0, v.least_is, v.greatest_is) refl in
                let p : from + i ≡ from + length (loaded g.shapes) = ap (λ (k : ℕ). from + k) g.count_is in
                rw e (record {
                  shapes = plain_leaf (leaf_of word) ∷ g.shapes;
                  reads = l.2;
                  sides_named = (leaf_sides names' word l.0, g.sides_named);
                  few = omega (arith, leaf_room);
                  most = omega arith;
                  starts_long = length-set starts pending (from + i) ∙ g.starts_long;
                  starts_are = stack_push starts pending (from + i) (omega (arith, leaf_room, g.starts_long)) ∙ ap₂ ◌∷◌ p g.starts_are;
                  count_is = omega (
                    arith,
                    g.count_is,
                    length-append (loaded g.shapes) (postfix (plain_leaf (leaf_of word))),
                    ap length (leaf_postfix
                        (leaf_of word)),
                  );
                  done = rw (leaf_postfix (leaf_of word)) (holds_more (loaded g.shapes) n g.done p inside);
                  same = λ k m. stored_below now (from + i) _ _ _ k (omega arith) ∙ g.same k m;
                  long = stored_long now (from + i) _ _ _ ∙ g.long;
                })

        -- an operator
        module _ (o : is_operator word ≡ true) where
          pub record JoinNext : Type 0 where
            pub first : Plain
            pub second : Plain
            pub under : List Plain
            pub shapes_are : g.shapes ≡ second ∷ first ∷ under
            pub reads : Reads plain_leaf plain_node names' (drop (i + 1) words) (plain_node (operator_of word) first second ∷ under) tree

          join_ahead : JoinNext
          join_ahead = by g.shapes refl (two_pending reads_on o)
            where
              by : (ps : List Plain) → g.shapes ≡ ps → 2 ≤ length g.shapes → JoinNext
              by [] e m = absurd (omega (arith, ap length e))
              by (q ∷ []) e m = absurd (omega (arith, ap length e))
              by (q ∷ p ∷ ps) e m =
                  record {
                    first = p;
                    second = q;
                    under = ps;
                    shapes_are = e;
                    reads = join_next (subst (λ (l : List Plain). Reads plain_leaf plain_node names'
                        (word ∷ drop (i + 1) words) l tree) e reads_on) o;
                  }

          abbrev a : JoinNext
          a = join_ahead

          abbrev front : List Node
          front = loaded (a.first ∷ a.under)

          pub join_room : (2 ≤ pending) × (pending ≤ most_pending)
          join_room = (omega (arith, pending_is, ap length a.shapes_are), g.few)

          start_is : get_or starts (pending - 1) 0 ≡ from + length front
          start_is =
              let e : get_or starts (pending - 1) 0 ∷ stack_of starts (pending - 1) ≡ starts_from from (a.second ∷ a.first ∷ a.under) =
              sym (stack_last starts pending (omega (arith, join_room.0))) ∙ g.starts_are ∙ ap (starts_from from) a.shapes_are in
              ap (λ (l : List ℕ). get_or l 0 0) e

          stood : Holds job.sources.surfaces block now from (front ++ postfix a.second)
          stood = subst (λ (l : List Plain). Holds job.sources.surfaces block now from (loaded l)) a.shapes_are g.done

          count_parts : i ≡ length front + length (postfix a.second)
          count_parts = g.count_is ∙ ap (λ (l : List Plain). length (loaded l)) a.shapes_are ∙ length-append front (postfix a.second)

          named_two : SidesNamed names' a.second × (SidesNamed names' a.first × AllSides names' a.under)
          named_two = subst (AllSides names') a.shapes_are g.sides_named

          pub joining_job : Joining now (get_or starts (pending - 1) 0) (from + i) word
          joining_job =
              record {
                surfaces = job.sources.surfaces;
                block = block;
                nodes = postfix a.second;
                small = small_codes
                    (rows_few job.sources.universe job.sources.surfaces.rows job.sources.scene.accepted_rows)
                    (balls_few job.sources.universe job.sources.surfaces.balls job.sources.scene.accepted_balls)
                    a.second named_two.0;
                holds = rw start_is (holds_behind front (postfix a.second) stood);
                ends = omega (arith, start_is, count_parts);
                operator = o;
                inside = inside;
                bounded = omega (arith, g.long, job.bounded);
              }

          pub loads_join : {after : List ℤ} → Joined joining_job after → Loads job after starts (pending - 1) (i + 1)
          unfolding joining_job
          loads_join {after} j =
              let later : List Node = turned_for word (postfix a.second) ++ (joining (meets word) ∷ []) in
              let nodes_are : front ++ later ≡ loaded (plain_node (operator_of word) a.first a.second ∷ a.under) =
              append_assoc (loaded a.under) (postfix a.first) later
              ∙ ap (λ (l : List Node). loaded a.under ++ l) (sym (node_postfix word o a.first a.second)) in
              let behind : Holds job.sources.surfaces block after (from + length front) later = rw start_is at j.holds in
              let kept : Holds job.sources.surfaces block after from front =
              holds_same (λ k p q. j.below.same k (omega (arith, start_is))) (holds_front front (postfix a.second) stood) in
              let e : stack_of starts (pending - 1) ≡ starts_from from (a.first ∷ a.under) =
              ap rest (sym (stack_last starts pending (omega (arith, join_room.0))) ∙ g.starts_are ∙ ap (starts_from from) a.shapes_are) in
              record {
                shapes = plain_node (operator_of word) a.first a.second ∷ a.under;
                reads = a.reads;
                sides_named = (node_sides (operator_of word) a.first a.second named_two.1.0 named_two.0, named_two.1.1);
                few = omega (arith, g.few);
                most = omega arith;
                starts_long = g.starts_long;
                starts_are = e;
                count_is = omega (
                  arith,
                  count_parts,
                  ap length nodes_are,
                  length-append front later,
                  length-append (turned_for word (postfix a.second)) (joining (meets word) ∷ []),
                  turned_long word (postfix a.second),
                );
                done = rw (← nodes_are) (holds_join front later kept behind);
                same = λ k m. j.below.same k (omega (arith, start_is)) ∙ g.same k m;
                long = j.below.long ∙ g.long;
              }

      pub loads_end : length words ≤ i → Loaded job now starts
      loads_end h =
          let none : drop i words ≡ [] = drop_end i words h in
          let alone : g.shapes ≡ tree ∷ [] = left_one g.reads none in
          let all : Holds job.sources.surfaces block now from (loaded (tree ∷ [])) =
          subst (λ (l : List Plain). Holds job.sources.surfaces block now from (loaded l)) alone g.done in
          record {
            holds = all;
            counted = omega (arith, g.count_is, g.most, ap (λ (l : List Plain). length (loaded l)) alone);
            below = record { same = g.same; long = g.long };
            starts_long = g.starts_long;
          }
