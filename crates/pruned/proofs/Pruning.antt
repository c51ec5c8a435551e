-- The loop of pruning. Every node is stored at the end of those that are kept, and the end moves only where it is kept: it falls back to the start of a shape
-- that is settled, stays where a son is handed over, and grows by an operator whose sons both stay or by an undecided leaf. The shapes pending are held as
-- trees; both arrays, the end and the nodes written are told by them.
use Prim.Native.Nat.{ℕ, suc, ◌+◌, ◌*◌, ◌-◌, ◌≤◌, ◌<◌}
use native.Mathlib.Omega.{arith}
use native.Mathlib.Numerals.{add-one}
use mathlib.Core.Path.{◌≡◌, refl, sym, ap, ap₂, ◌∙◌}
use mathlib.Core.Bool.{Bool, true, false, cond}
use mathlib.Core.Logic.{⊎_elim}
use mathlib.Core.List.{List, [], ◌∷◌, ◌++◌, append_assoc, append-nil}
use lib.Dec.{eqb}
use lib.IntN.{ℤ, pos, nat_abs}
use lib.ListN.{length, get_or, set, length-append, length-set}
use Rattle.universe.specs.declared.Block.{Block}
use Rattle.bintree.specs.declared.Colour.TheVariants.{White, Black}
use Rattle.csg.specs.Halfspace.{Mark, decided, undecided}
use Rattle.csg.specs.Surfaces.{Surfaces, Surface, halfspace, ball, Named, named, halfspace_named}
use Rattle.csg.specs.Tree.{Plain}
use Rattle.csg.specs.Marks.{intersection_mark}
use Rattle.convert.specs.Codes.{bits_of}
use Rattle.pruned.specs.Left.{Left, settled, still, as_mark, side_left, left_by, kept}
use Rattle.pruned.specs.Nodes.{Node, of_colour, of_side, joining, join_plain, join_left, postfix, left_nodes, all_postfix, node_code, is_join, is_meet, least_of}
use Rattle.pruned.specs.Nodes.{greatest_of}
use Rattle.pruned.specs.Nodes.{number_at, stored, Holds, nothing, OneOrTwo, one, two, SmallExtreme, block_of, marks_of}
use Rattle.pruned.specs.Nodes.{left_bits}
use Rattle.pruned.specs.Nodes.{all_mark_by, all_left_by, Pruning, end_after, joined_code, LeafOf, side_leaf, colour_leaf, LeafJob, LeafJudged, CodeAt, Storable}
use Rattle.pruned.specs.Nodes.{whole_mark, most_shapes, Shelves, Pruned}
use Rattle.pruned.proofs.Moving.{held, extreme_near}
use Rattle.pruned.proofs.Leaves.{values_small}
use Rattle.pruned.proofs.Memory.{stored_long, stored_below, stored_above, holds_same, holds_front, holds_more}
use Rattle.pruned.proofs.Reading.{Reads, join_code_lem, last_first, reads_all}
use Rattle.pruned.proofs.Nexts.{LeafNext, leaf_next, JoinNext, join_next, small_code, code_next, all_read}
use Rattle.pruned.proofs.Stacks.{stack_of, length_stack, stack_push, stack_last, stack_two, stack_joined}

-- ---- a node is stored at the end: the end falls back, stays, or grows
module _ {surfaces : Surfaces} {b : Block} (now : List ℤ) (to end : ℕ) where
  falls : (c l g : ℤ) (P Q R : List Node) → R ≡ P ++ Q → Holds surfaces b now to R → end ≡ to + length R →
      Holds surfaces b (stored now end c l g) to (P ++ []) × (to + length P ≡ to + length (P ++ []))
  falls c l g P Q R e h f =
      let k : length R ≡ length P + length Q = ap length e ∙ length-append P Q in
      rw (append-nil P) (
        holds_same (λ i p q. stored_below now end c l g i (omega arith)) (holds_front P Q (rw e at h)),
        refl,
      )

  stays : (c l g : ℤ) (R S : List Node) → R ≡ S → Holds surfaces b now to R → end ≡ to + length R →
      Holds surfaces b (stored now end c l g) to S × (end ≡ to + length S)
  stays c l g R S e h f = (
    rw e at (holds_same {after = stored now end c l g} (λ i p q. stored_below now end c l g i (omega arith)) h),
    f
        ∙ ap (λ (x : List Node). to + length x) e,
  )

  grows : (n : Node) (R S : List Node) → R ++ (n ∷ []) ≡ S → Holds surfaces b now to R → end ≡ to + length R → 3 * end + 2 < length now →
      Holds surfaces b (stored now end (pos (node_code n)) (least_of surfaces b n) (greatest_of surfaces b n)) to S × (end + 1 ≡ to + length S)
  grows n R S e h f inside = (
    rw e at (holds_more R n h f inside),
    omega (arith, length-append R (n ∷ []), ap length e),
  )

  -- a leaf
  leaf_stored : {names : Named} {t : Plain} {n : Node} → LeafOf names t n → (x : Left) (P : List Node) → ((q : Plain) → x ≡ still q → q ≡ t) →
      Holds surfaces b now to P → end ≡ to + length P → 3 * end + 2 < length now →
      Holds surfaces b (stored now end (pos (node_code n)) (least_of surfaces b n) (greatest_of surfaces b n)) to (P ++ left_nodes x)
      × (end_after (left_bits x) 0 0 end end ≡ to + length (P ++ left_nodes x))
  unfolding postfix
  leaf_stored l (settled White) P k h e i = stays _ _ _ P (P ++ []) (sym (append-nil P)) h e
  leaf_stored l (settled Black) P k h e i = stays _ _ _ P (P ++ []) (sym (append-nil P)) h e
  leaf_stored {n = n} l (still q) P k h e i = grows n P (P ++ postfix q) (rw (k q refl) (by l)) h e i
    where
      by : {names : Named} {t : Plain} {m : Node} → LeafOf names t m → P ++ (m ∷ []) ≡ P ++ postfix t
      by colour_leaf = refl
      by (side_leaf h) = refl

  -- an operator
  join_stored : (meet : Bool) (x y : Left) (P : List Node) → Holds surfaces b now to ((P ++ left_nodes x) ++ left_nodes y) →
      end ≡ to + length ((P ++ left_nodes x) ++ left_nodes y) → 3 * end + 2 < length now →
      Holds surfaces b (stored now end (pos (node_code (joining meet))) (pos 0) (pos 0)) to (P ++ left_nodes (join_left meet x y))
      × (end_after (left_bits (join_left meet x y)) (left_bits x) (left_bits y) (to + length P) end ≡ to + length (P ++ left_nodes (join_left meet x y)))
  unfolding postfix
  join_stored true (settled White) (settled White) P h e i = falls _ _ _ P [] _ (append-nil (P ++ [])) h e
  join_stored true (settled White) (settled Black) P h e i = falls _ _ _ P [] _ (append-nil (P ++ [])) h e
  join_stored true (settled Black) (settled White) P h e i = falls _ _ _ P [] _ (append-nil (P ++ [])) h e
  join_stored true (settled Black) (settled Black) P h e i = falls _ _ _ P [] _ (append-nil (P ++ [])) h e
  join_stored false (settled White) (settled White) P h e i = falls _ _ _ P [] _ (append-nil (P ++ [])) h e
  join_stored false (settled White) (settled Black) P h e i = falls _ _ _ P [] _ (append-nil (P ++ [])) h e
  join_stored false (settled Black) (settled White) P h e i = falls _ _ _ P [] _ (append-nil (P ++ [])) h e
  join_stored false (settled Black) (settled Black) P h e i = falls _ _ _ P [] _ (append-nil (P ++ [])) h e
  join_stored true (settled White) (still q) P h e i = falls _ _ _ P (postfix q) _ (ap (λ (l : List Node). l ++ postfix q) (append-nil P)) h e
  join_stored true (settled Black) (still q) P h e i = stays _ _ _ _ (P ++ postfix q) (ap (λ (l : List Node). l ++ postfix q) (append-nil P)) h e
  join_stored false (settled White) (still q) P h e i = stays _ _ _ _ (P ++ postfix q) (ap (λ (l : List Node). l ++ postfix q) (append-nil P)) h e
  join_stored false (settled Black) (still q) P h e i = falls _ _ _ P (postfix q) _ (ap (λ (l : List Node). l ++ postfix q) (append-nil P)) h e
  join_stored true (still p) (settled White) P h e i = falls _ _ _ P (postfix p) _ (append-nil (P ++ postfix p)) h e
  join_stored true (still p) (settled Black) P h e i = stays _ _ _ _ (P ++ postfix p) (append-nil (P ++ postfix p)) h e
  join_stored false (still p) (settled White) P h e i = stays _ _ _ _ (P ++ postfix p) (append-nil (P ++ postfix p)) h e
  join_stored false (still p) (settled Black) P h e i = falls _ _ _ P (postfix p) _ (append-nil (P ++ postfix p)) h e
  join_stored true (still p) (still q) P h e i =
      grows (joining true) ((P ++ postfix p) ++ postfix q) (P ++ (postfix p ++ (postfix q ++ (joining true ∷ [])))) (simp append_assoc) h e i
  join_stored false (still p) (still q) P h e i =
      grows (joining false) ((P ++ postfix p) ++ postfix q) (P ++ (postfix p ++ (postfix q ++ (joining false ∷ [])))) (simp append_assoc) h e i

stored_same : (now : List ℤ) (end : ℕ) {c d l m h k : ℤ} → c ≡ d → l ≡ m → h ≡ k → stored now end c l h ≡ stored now end d m k
stored_same now end p q r = rw (p, q, r)

-- ---- joining by codes
pub bits_join : (meet : Bool) (x y : Left) → joined_code meet (left_bits x) (left_bits y) ≡ left_bits (join_left meet x y)
bits_join true (settled White) (settled White) = refl
bits_join true (settled White) (settled Black) = refl
bits_join true (settled White) (still q) = refl
bits_join true (settled Black) (settled White) = refl
bits_join true (settled Black) (settled Black) = refl
bits_join true (settled Black) (still q) = refl
bits_join true (still p) (settled White) = refl
bits_join true (still p) (settled Black) = refl
bits_join true (still p) (still q) = refl
bits_join false (settled White) (settled White) = refl
bits_join false (settled White) (settled Black) = refl
bits_join false (settled White) (still q) = refl
bits_join false (settled Black) (settled White) = refl
bits_join false (settled Black) (settled Black) = refl
bits_join false (settled Black) (still q) = refl
bits_join false (still p) (settled White) = refl
bits_join false (still p) (settled Black) = refl
bits_join false (still p) (still q) = refl

pub left_join : (marks : Bool → Surface → Mark) (meet : Bool) (p q : Plain) →
    left_by marks (join_plain meet p q) ≡ join_left meet (left_by marks p) (left_by marks q)
unfolding left_by
left_join marks true p q = refl
left_join marks false p q = refl

-- what is left of a leaf is the leaf
pub leaf_left : {names : Named} (marks : Bool → Surface → Mark) {t : Plain} {n : Node} → LeafOf names t n → (q : Plain) → left_by marks t ≡ still q → q ≡ t
unfolding left_by
leaf_left marks colour_leaf q e = let z : ◌≡◌ {A = ℕ} 0 1 = cc in absurd (omega arith)
leaf_left marks (side_leaf {turned = turned} {s = s} m) q e = by (marks turned s) e
  where
    by : (k : Mark) → side_left turned s k ≡ still q → q ≡ Plain.side turned s
    by (decided c) e = let z : ◌≡◌ {A = ℕ} 0 1 = cc in absurd (omega arith)
    by undecided e = cc

-- ---- the shapes pending, the last one first: what they have written, where each starts, and their codes
module _ (marks : Bool → Surface → Mark) where
  abbrev pub written : List Plain → List Node
  written [] = []
  written (p ∷ ps) = written ps ++ left_nodes (left_by marks p)

  abbrev pub starts_of : ℕ → List Plain → List ℕ
  starts_of to [] = []
  starts_of to (p ∷ ps) = (to + length (written ps)) ∷ starts_of to ps

  abbrev pub codes_of : List Plain → List ℕ
  codes_of [] = []
  codes_of (p ∷ ps) = left_bits (left_by marks p) ∷ codes_of ps

  pub length_codes : (ps : List Plain) → length (codes_of ps) ≡ length ps
  length_codes [] = refl
  length_codes (p ∷ ps) = ap suc (length_codes ps)

  -- ---- one tree, and two
  pub one_mark : (p : Plain) → left_bits (left_by marks p) ≡ bits_of (all_mark_by marks (p ∷ []))
  unfolding all_mark_by intersection_mark
  one_mark p = by (left_by marks p)
    where
      by : (x : Left) → left_bits x ≡ bits_of (intersection_mark (as_mark x) (decided Black))
      by (settled White) = refl
      by (settled Black) = refl
      by (still q) = refl

  pub two_mark : (p q : Plain) → joined_code true (left_bits (left_by marks p)) (left_bits (left_by marks q)) ≡ bits_of (all_mark_by marks (p ∷ q ∷ []))
  unfolding all_mark_by intersection_mark
  two_mark p q = by (left_by marks p) (left_by marks q)
    where
      by : (x y : Left) → joined_code true (left_bits x) (left_bits y) ≡ bits_of (intersection_mark (as_mark x) (intersection_mark (as_mark y) (decided Black)))
      by (settled White) (settled White) = refl
      by (settled White) (settled Black) = refl
      by (settled White) (still s) = refl
      by (settled Black) (settled White) = refl
      by (settled Black) (settled Black) = refl
      by (settled Black) (still s) = refl
      by (still r) (settled White) = refl
      by (still r) (settled Black) = refl
      by (still r) (still s) = refl

  pub one_nodes : (p : Plain) → written (p ∷ []) ≡ all_postfix (all_left_by marks (p ∷ []))
  unfolding all_left_by all_postfix
  one_nodes p = by (left_by marks p)
    where
      by : (x : Left) → [] ++ left_nodes x ≡ all_postfix (kept x [])
      by (settled c) = refl
      by (still q) = sym (append-nil (postfix q))

  pub two_nodes : (p q : Plain) → written (q ∷ p ∷ []) ≡ all_postfix (all_left_by marks (p ∷ q ∷ []))
  unfolding all_left_by all_postfix
  two_nodes p q = by (left_by marks p) (left_by marks q)
    where
      by : (x y : Left) → ([] ++ left_nodes x) ++ left_nodes y ≡ all_postfix (kept x (kept y []))
      by (settled c) (settled d) = refl
      by (settled c) (still s) = sym (append-nil (postfix s))
      by (still r) (settled d) = refl
      by (still r) (still s) = ap (λ (l : List Node). postfix r ++ l) (sym (append-nil (postfix s)))

-- ---- the loop's invariant, and what each node does to it
module _ {surfaces : Surfaces} {axes : ℕ} {low side : List ℕ} {axis half : ℕ} {high centre : Bool} {work : List ℤ} {from count to : ℕ} where
  pub record Going (job : Pruning surfaces axes low side axis half high centre work from count to)
      (now : List ℤ) (starts codes : List ℕ) (pending end i : ℕ) : Type 0 where
    pub shapes : List Plain
    pub rest : List Node
    pub reads : Reads (named surfaces) rest shapes (last_first job.trees)
    pub coming : Holds surfaces job.step.parent now i rest
    pub onward : i + length rest ≡ from + count
    pub begun : from ≤ i
    pub few : pending ≤ most_shapes
    pub starts_long : length starts ≡ most_shapes
    pub codes_long : length codes ≡ most_shapes
    pub starts_are : stack_of starts pending ≡ starts_of (marks_of job.step) to shapes
    pub codes_are : stack_of codes pending ≡ codes_of (marks_of job.step) shapes
    pub end_is : end ≡ to + length (written (marks_of job.step) shapes)
    pub within : end + from ≤ to + i
    pub done : Holds surfaces (block_of job.step) now to (written (marks_of job.step) shapes)
    pub below : (k : ℕ) → k < 3 * to → number_at now k ≡ number_at work k
    pub long : length now ≡ length work

  module _ (job : Pruning surfaces axes low side axis half high centre work from count to) where
    abbrev marks : Bool → Surface → Mark
    marks = marks_of job.step

    pub going_start : {starts codes : List ℕ} → Shelves starts codes → Going job work starts codes 0 to from
    going_start s =
        record {
          shapes = [];
          rest = all_postfix job.trees;
          reads = reads_all job.few;
          coming = job.holds;
          onward = omega (arith, job.counted);
          begun = omega arith;
          few = omega arith;
          starts_long = s.starts_long;
          codes_long = s.codes_long;
          starts_are = refl;
          codes_are = refl;
          end_is = omega arith;
          within = omega arith;
          done = nothing;
          below = λ k h. refl;
          long = refl;
        }

    module _ {now : List ℤ} {starts codes : List ℕ} {pending end i : ℕ} (g : Going job now starts codes pending end i) where
      pub shelves_kept : Shelves starts codes
      shelves_kept = record { starts_long = g.starts_long; codes_long = g.codes_long }

      count_is : pending ≡ length g.shapes
      count_is = sym (length_stack codes pending) ∙ ap length g.codes_are ∙ length_codes marks g.shapes

      module _ (h : i < from + count) where
        pub store_in : 3 * end + 2 < length now
        store_in = omega (arith, job.room, g.within, g.long)

        pub read_in : 3 * i + 2 < length now
        read_in = omega (arith, job.inside, g.long)

        -- the nodes to come are not met by what is stored
        coming_kept : (c l u : ℤ) (ns : List Node) → suc i + length ns ≡ from + count → Holds surfaces job.step.parent now (suc i) ns →
            Holds surfaces job.step.parent (stored now end c l u) (suc i) ns
        coming_kept c l u ns e hs =
            ⊎_elim
            (λ before. holds_same {after = stored now end c l u} (λ k p q. stored_above now end c l u k (omega (arith, g.within))) hs)
            (λ behind. holds_same {after = stored now end c l u} (λ k p q. stored_below now end c l u k (omega (arith, g.end_is))) hs)
            job.apart

        pub code_ready : CodeAt now i
        code_ready = code_next g.reads g.coming g.onward h job.step.few_rows job.step.few_balls read_in

        module _ {code : ℕ} (read : code ≡ nat_abs (number_at now (3 * i))) where
          -- ---- a leaf
          module _ (o : is_join code ≡ false) where
            abbrev next : LeafNext surfaces job.step.parent now i (from + count) g.shapes (last_first job.trees)
            next = leaf_next g.reads g.coming g.onward h read o

            code_is : code ≡ node_code next.leaf
            code_is = read ∙ ap nat_abs next.at.code

            values : SmallExtreme (number_at now (3 * i + 1)) × SmallExtreme (number_at now (3 * i + 2))
            values = values_small job.step {code = code} next.tree next.leaf next.stands code_is next.at.low next.at.high

            pub leaf_room : pending < most_shapes
            leaf_room = omega (arith, count_is, next.room)

            pub leaf_job : LeafJob surfaces axes low side axis half high centre code (held (number_at now (3 * i + 1))) (held (number_at now (3 * i + 2)))
            leaf_job =
                record {
                  step = job.step;
                  tree = next.tree;
                  leaf = next.leaf;
                  stands = next.stands;
                  code_is = code_is;
                  least_is = (extreme_near values.0).same ∙ next.at.low;
                  greatest_is = (extreme_near values.1).same ∙ next.at.high;
                  rests = job.rests;
                }

            -- its values over the block are small
            leaf_small : {x y : ℤ} → x ≡ least_of surfaces (block_of job.step) next.leaf → y ≡ greatest_of surfaces (block_of job.step) next.leaf →
                SmallExtreme x × SmallExtreme y
            leaf_small p q = by next.leaf next.stands p q
              where
                by : {t : Plain} {x y : ℤ} (n : Node) → LeafOf (named surfaces) t n → x ≡ least_of surfaces (block_of job.step) n →
                    y ≡ greatest_of surfaces (block_of job.step) n → SmallExtreme x × SmallExtreme y
                by (of_colour c) l p q = rw (p, q) (record { most = omega arith }, record { most = omega arith })
                by (of_side turned (halfspace k)) (side_leaf (halfspace_named m)) p q = rw (p, q) (job.step.small_block k m)
                by (of_side turned (ball k)) l p q = rw (p, q) (record { most = omega arith }, record { most = omega arith })
                by {t = t} (joining _) l p q = elim l [ ]

            module _ {bits : ℕ} {x y : ℤ} (judged : LeafJudged leaf_job bits x y) where
              smalls : SmallExtreme x × SmallExtreme y
              unfolding leaf_job
              smalls = leaf_small judged.least_over judged.greatest_over

              pub leaf_storable : Storable now end code (held x) (held y)
              leaf_storable =
                  record {
                    inside = store_in;
                    small = rw code_is (small_code surfaces job.step.few_rows job.step.few_balls next.stands);
                    small_low = rw (extreme_near smalls.0).same smalls.0;
                    small_high = rw (extreme_near smalls.1).same smalls.1;
                  }

              leaf_done : Holds surfaces (block_of job.step) (stored now end (pos code) (held x) (held y)) to (written marks (next.tree ∷ g.shapes))
                  × (end_after bits 0 0 end end ≡ to + length (written marks (next.tree ∷ g.shapes)))
              unfolding leaf_job
              leaf_done =
                  let e = stored_same now end (ap pos code_is) ((extreme_near smalls.0).same ∙ judged.least_over) ((extreme_near smalls.1).same
                  ∙ judged.greatest_over) in
                  rw (e, judged.judged)
                  (leaf_stored now to end next.stands (left_by marks next.tree) (written marks g.shapes)
                  (leaf_left marks next.stands) g.done g.end_is store_in)

              end_most : (b e : ℕ) → end_after b 0 0 e e ≤ e + 1
              end_most b e = by (eqb b 0)
                where
                  by : (t : Bool) → cond t (e + 1) e ≤ e + 1
                  by true = omega arith
                  by false = omega arith

              pub going_leaf : {later : ℕ} {after : List ℤ} → later ≡ end_after bits 0 0 end end → after ≡ stored now end (pos code) (held x) (held y) →
                  Going job after (set starts pending end) (set codes pending bits) (pending + 1) later (i + 1)
              unfolding leaf_job
              going_leaf {later} {after} el ea =
                  let room = leaf_room in
                  rw (ea, add-one i) (record {
                    shapes = next.tree ∷ g.shapes;
                    rest = next.later;
                    reads = next.reads;
                    coming = coming_kept (pos code) (held x) (held y) next.later next.onward next.coming;
                    onward = next.onward;
                    begun = omega (arith, g.begun);
                    few = omega (arith, room);
                    starts_long = length-set starts pending end ∙ g.starts_long;
                    codes_long = length-set codes pending bits ∙ g.codes_long;
                    starts_are = stack_push starts pending end (omega (arith, g.starts_long)) ∙ ap₂ ◌∷◌ g.end_is g.starts_are;
                    codes_are = stack_push codes pending bits (omega (arith, g.codes_long)) ∙ ap₂ ◌∷◌ judged.judged g.codes_are;
                    end_is = el ∙ leaf_done.1;
                    within = omega (arith, g.within, el, end_most bits end);
                    done = leaf_done.0;
                    below = λ k m. stored_below now end (pos code) (held x) (held y) k (omega (arith, g.end_is)) ∙ g.below k m;
                    long = stored_long now end (pos code) (held x) (held y) ∙ g.long;
                  })

          -- ---- an operator
          module _ (o : is_join code ≡ true) where
            abbrev next_join_lem : JoinNext surfaces job.step.parent now i (from + count) g.shapes (last_first job.trees)
            next_join_lem = join_next g.reads g.coming g.onward h read o

            abbrev x : Left
            x = left_by marks next_join_lem.first

            abbrev y : Left
            y = left_by marks next_join_lem.second

            abbrev P : List Node
            P = written marks next_join_lem.under

            meet_is : is_meet code ≡ next_join_lem.meet
            meet_is = ap is_meet read ∙ ap (λ (z : ℤ). is_meet (nat_abs z)) next_join_lem.at.code ∙ (join_code_lem next_join_lem.meet).1

            pub join_two : 2 ≤ pending
            join_two = omega (arith, count_is, ap length next_join_lem.shapes_are)

            pub join_storable : Storable now end code (pos 0) (pos 0)
            join_storable =
                record {
                  inside = store_in;
                  small = rw (read ∙ ap nat_abs next_join_lem.at.code) (join_code_lem next_join_lem.meet).2;
                  small_low = record { most = omega arith };
                  small_high = record { most = omega arith };
                }

            codes_two : get_or codes (pending - 1) 0 ∷ get_or codes (pending - 2) 0 ∷ stack_of codes (pending - 2) ≡ left_bits y ∷ left_bits x ∷ codes_of marks
                next_join_lem.under
            codes_two = sym (stack_two codes pending join_two) ∙ g.codes_are ∙ ap (codes_of marks) next_join_lem.shapes_are

            starts_two : get_or starts (pending - 1) 0 ∷ get_or starts (pending - 2) 0 ∷ stack_of starts (pending - 2)
                ≡ (to + length (P ++ left_nodes x)) ∷ (to + length P) ∷ starts_of marks to next_join_lem.under
            starts_two = sym (stack_two starts pending join_two) ∙ g.starts_are ∙ ap (starts_of marks to) next_join_lem.shapes_are

            starts_last : get_or starts (pending - 1) 0 ∷ stack_of starts (pending - 1)
                ≡ (to + length (P ++ left_nodes x)) ∷ (to + length P) ∷ starts_of marks to next_join_lem.under
            starts_last = sym (stack_last starts pending (omega (arith, join_two))) ∙ g.starts_are ∙ ap (starts_of marks to) next_join_lem.shapes_are

            first_is : get_or codes (pending - 2) 0 ≡ left_bits x
            first_is = let e = codes_two in cc

            second_is : get_or codes (pending - 1) 0 ≡ left_bits y
            second_is = let e = codes_two in cc

            start_is : get_or starts (pending - 2) 0 ≡ to + length P
            start_is = let e = starts_two in cc

            under_codes : stack_of codes (pending - 2) ≡ codes_of marks next_join_lem.under
            under_codes = let e = codes_two in cc

            under_starts : stack_of starts (pending - 1) ≡ (to + length P) ∷ starts_of marks to next_join_lem.under
            under_starts = let e = starts_last in cc

            whole_left : left_by marks (join_plain next_join_lem.meet next_join_lem.first next_join_lem.second) ≡ join_left next_join_lem.meet x y
            whole_left = left_join marks next_join_lem.meet next_join_lem.first next_join_lem.second

            join_done : Holds surfaces (block_of job.step) (stored now end (pos (node_code (joining next_join_lem.meet))) (pos 0) (pos 0)) to
                (P ++ left_nodes (join_left next_join_lem.meet x y))
                × (end_after (left_bits (join_left next_join_lem.meet x y)) (left_bits x) (left_bits y) (to + length P) end
                ≡ to + length (P ++ left_nodes (join_left next_join_lem.meet x y)))
            join_done =
                let done = rw next_join_lem.shapes_are at g.done in
                let ends = rw next_join_lem.shapes_are at g.end_is in
                join_stored now to end next_join_lem.meet x y P done ends store_in

            module _ {bits : ℕ} (e : bits ≡ joined_code (is_meet code) (get_or codes (pending - 2) 0) (get_or codes (pending - 1) 0)) where
              bits_are : bits ≡ left_bits (join_left next_join_lem.meet x y)
              bits_are = e ∙ rw (meet_is, first_is, second_is) (bits_join next_join_lem.meet x y)

              pub start_most : get_or starts (pending - 2) 0 ≤ end
              start_most =
                  omega (
                    arith,
                    start_is,
                    g.end_is,
                    ap (λ (l : List Plain). length (written marks l)) next_join_lem.shapes_are,
                    length-append
                        (P ++ left_nodes x) (left_nodes y),
                    length-append P (left_nodes x),
                  )

              join_most : (b c d start : ℕ) → start ≤ end → end_after b c d start end ≤ end + 1
              join_most b c d start m = by (eqb b 0) (eqb c 0) (eqb d 0)
                where
                  by : (p q r : Bool) → cond p (cond q (cond r (end + 1) end) end) start ≤ end + 1
                  by true true true = omega arith
                  by true true false = omega arith
                  by true false r = omega arith
                  by false q r = omega arith

              pub going_join : {later : ℕ} {after : List ℤ} →
                  later ≡ end_after bits (get_or codes (pending - 2) 0) (get_or codes (pending - 1) 0) (get_or starts (pending - 2) 0) end →
                  after ≡ stored now end (pos code) (pos 0) (pos 0) → Going job after starts (set codes (pending - 2) bits) (pending - 1) later (i + 1)
              going_join {later} {after} el ea =
                  let le : later ≡ end_after (left_bits (join_left next_join_lem.meet x y)) (left_bits x) (left_bits y) (to + length P) end =
                  rw (bits_are, first_is, second_is, start_is) at el in
                  let kind : code ≡ node_code (joining next_join_lem.meet) = read ∙ ap nat_abs next_join_lem.at.code in
                  let t : Plain = join_plain next_join_lem.meet next_join_lem.first next_join_lem.second in
                  rw (ea, add-one i) (record {
                    shapes = t ∷ next_join_lem.under;
                    rest = next_join_lem.later;
                    reads = next_join_lem.reads;
                    coming = coming_kept (pos code) (pos 0) (pos 0) next_join_lem.later next_join_lem.onward next_join_lem.coming;
                    onward = next_join_lem.onward;
                    begun = omega (arith, g.begun);
                    few = omega (arith, g.few);
                    starts_long = g.starts_long;
                    codes_long = length-set codes (pending - 2) bits ∙ g.codes_long;
                    starts_are = under_starts;
                    codes_are =
                        stack_joined codes pending bits join_two (omega (arith, g.few, g.codes_long))
                        ∙ ap₂ ◌∷◌ (bits_are ∙ ap left_bits (sym whole_left)) under_codes;
                    end_is = rw whole_left (le ∙ join_done.1);
                    within = omega (
                      arith,
                      g.within,
                      el,
                      join_most bits (get_or codes (pending - 2) 0) (get_or codes (pending - 1) 0) (get_or starts
                          (pending - 2) 0) start_most,
                    );
                    done = rw (stored_same now end {l = pos 0} {h = pos 0} (ap pos kind) refl refl, whole_left) join_done.0;
                    below = λ k m. stored_below now end (pos code) (pos 0) (pos 0) k (omega (arith, g.end_is)) ∙ g.below k m;
                    long = stored_long now end (pos code) (pos 0) (pos 0) ∙ g.long;
                  })

      -- ---- the end: the trees themselves are pending
      module _ (h : from + count ≤ i) where
        shapes_end : g.shapes ≡ last_first job.trees
        shapes_end = all_read g.reads g.onward h

        pub end_past : to ≤ end
        end_past = omega (arith, g.end_is)

        pub going_end : {mark : ℕ} → mark ≡ whole_mark codes pending → Pruned job now mark (end - to)
        going_end {mark} m =
            let w = by job.few shapes_end in
            let up : end ≡ to + length (all_postfix (all_left_by marks job.trees)) = g.end_is ∙ ap (λ (l : List Node). to + length l) w.1 in
            record {
              judged = w.0;
              counted = omega (arith, up);
              holds = rw w.1 at g.done;
              below = record { same = g.below; long = g.long };
            }
          where
            by : {ps : List Plain} → OneOrTwo (named surfaces) ps → g.shapes ≡ last_first ps →
                (mark ≡ bits_of (all_mark_by marks ps)) × (written marks g.shapes ≡ all_postfix (all_left_by marks ps))
            by (one {p} c) e =
                let n : pending ≡ 1 = count_is ∙ ap length e in
                let s : stack_of codes 1 ≡ left_bits (left_by marks p) ∷ [] = ap (stack_of codes) (sym n) ∙ g.codes_are ∙ ap (codes_of marks) e in
                let f : get_or codes 0 0 ≡ left_bits (left_by marks p) = cc in
                (m ∙ rw (n, f) (one_mark marks p), ap (written marks) e ∙ one_nodes marks p)
            by (two {p} {q} c d) e =
                let n : pending ≡ 2 = count_is ∙ ap length e in
                let s : stack_of codes 2 ≡ left_bits (left_by marks q) ∷ left_bits (left_by marks p) ∷ [] =
                ap (stack_of codes) (sym n) ∙ g.codes_are ∙ ap (codes_of marks) e in
                let f : get_or codes 0 0 ≡ left_bits (left_by marks p) = cc in
                let k : get_or codes 1 0 ≡ left_bits (left_by marks q) = cc in
                (m ∙ rw (n, f, k) (two_mark marks p q), ap (written marks) e ∙ two_nodes marks p q)
