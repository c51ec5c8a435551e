-- The loop of pruning codes, over the shapes pending as crate pruned tells them: every code is stored at the end of those that are kept, and the end falls back
-- to the start of a shape that is settled, stays where a son is handed over, and grows by an operator whose sons both stay or by an undecided leaf.
use Prim.Native.Nat.{ℕ, suc, ◌+◌, ◌-◌, ◌≤◌, ◌<◌}
use native.Mathlib.Omega.{arith}
use native.Mathlib.Numerals.{add-one}
use mathlib.Core.Path.{◌≡◌, refl, sym, ap, ap₂, ◌∙◌, subst}
use mathlib.Core.Bool.{Bool, true, false, cond, false≢true}
use mathlib.Core.List.{List, [], ◌∷◌, ◌++◌, append_assoc, append-nil}
use lib.Dec.{eqb}
use lib.IntN.{ℤ}
use lib.ListN.{length, get_or, set, length-append, length-set}
use Rattle.universe.specs.declared.Block.{Block}
use Rattle.bintree.specs.declared.Colour.TheVariants.{White, Black}
use Rattle.csg.specs.Halfspace.{Mark}
use Rattle.csg.specs.Surfaces.{Surfaces, Surface, Named, named}
use Rattle.csg.specs.Tree.{Plain}
use Rattle.convert.specs.Codes.{bits_of}
use Rattle.pruned.specs.Left.{Left, settled, still, left_by, all_left}
use Rattle.pruned.specs.Nodes.{Node, joining, join_plain, join_left, postfix, left_nodes, all_postfix, node_code, is_join, is_meet, OneOrTwo, one, two, left_bits}
use Rattle.pruned.specs.Nodes.{all_mark_by, all_left_by, end_after, joined_code, LeafOf, side_leaf, colour_leaf, whole_mark, most_shapes, Shelves}
use Rattle.pruned.proofs.Laying.{judged_over, left_over}
use Rattle.pruned.proofs.Pruning.{bits_join, left_join, leaf_left, written, starts_of, codes_of, length_codes, one_mark, two_mark, one_nodes, two_nodes}
use Rattle.pruned.proofs.Reading.{Reads, ended, pushed, joined, leaf_code, join_code_lem, last_first, reads_all}
use Rattle.pruned.proofs.Stacks.{stack_of, length_stack, stack_push, stack_last, stack_two, stack_joined}
use Rattle.at_once.specs.Codes.{HoldsCodes, no_code, code, SameCodes, block_at}
use Rattle.at_once.specs.Moves.{ValueOf, RightValues}
use Rattle.at_once.specs.Pruning.{marks_over, LeafJob, LeafJudged, PruneJob, PrunedCodes}
use Rattle.at_once.proofs.RowValues.{value_here}
use Rattle.at_once.proofs.Rooms.{stored_behind, codes_front, codes_more, same_itself, same_stored}

-- ---- a code is stored at the end: the end falls back, stays, or grows
module _ (now : List ℕ) (to end x : ℕ) where
  falls : (P Q R : List Node) → R ≡ P ++ Q → HoldsCodes now to R → end ≡ to + length R →
      HoldsCodes (set now end x) to (P ++ []) × (to + length P ≡ to + length (P ++ []))
  falls P Q R e h f =
      let k : length R ≡ length P + length Q = ap length e ∙ length-append P Q in
      rw (append-nil P) (stored_behind x (omega arith) (codes_front P Q (rw e at h)), refl)

  stays : (R S : List Node) → R ≡ S → HoldsCodes now to R → end ≡ to + length R → HoldsCodes (set now end x) to S × (end ≡ to + length S)
  stays R S e h f = (rw e at (stored_behind {place = end} x (omega arith) h), f ∙ ap (λ (l : List Node). to + length l) e)

  module _ (inside : end < length now) where
    grows : (n : Node) → x ≡ node_code n → (R S : List Node) → R ++ (n ∷ []) ≡ S → HoldsCodes now to R → end ≡ to + length R →
        HoldsCodes (set now end x) to S × (end + 1 ≡ to + length S)
    grows n c R S e h f = (rw e at (codes_more R n h f inside c), omega (arith, length-append R (n ∷ []), ap length e))

    -- a leaf
    leaf_stored : {names : Named} {t : Plain} {n : Node} → LeafOf names t n → x ≡ node_code n → (l : Left) (P : List Node) →
        ((q : Plain) → l ≡ still q → q ≡ t) → HoldsCodes now to P → end ≡ to + length P →
        HoldsCodes (set now end x) to (P ++ left_nodes l) × (end_after (left_bits l) 0 0 end end ≡ to + length (P ++ left_nodes l))
    unfolding postfix
    leaf_stored s c (settled White) P k h e = stays P (P ++ []) (sym (append-nil P)) h e
    leaf_stored s c (settled Black) P k h e = stays P (P ++ []) (sym (append-nil P)) h e
    leaf_stored {n = n} s c (still q) P k h e = grows n c P (P ++ postfix q) (rw (k q refl) (by s)) h e
      where
        by : {names : Named} {t : Plain} {m : Node} → LeafOf names t m → P ++ (m ∷ []) ≡ P ++ postfix t
        by colour_leaf = refl
        by (side_leaf h) = refl

    -- an operator
    join_stored : (meet : Bool) → x ≡ node_code (joining meet) → (l r : Left) (P : List Node) → HoldsCodes now to ((P ++ left_nodes l) ++ left_nodes r) →
        end ≡ to + length ((P ++ left_nodes l) ++ left_nodes r) →
        HoldsCodes (set now end x) to (P ++ left_nodes (join_left meet l r))
        × (end_after (left_bits (join_left meet l r)) (left_bits l) (left_bits r) (to + length P) end ≡ to + length (P ++ left_nodes (join_left meet l r)))
    unfolding postfix
    join_stored true c (settled White) (settled White) P h e = falls P [] _ (append-nil (P ++ [])) h e
    join_stored true c (settled White) (settled Black) P h e = falls P [] _ (append-nil (P ++ [])) h e
    join_stored true c (settled Black) (settled White) P h e = falls P [] _ (append-nil (P ++ [])) h e
    join_stored true c (settled Black) (settled Black) P h e = falls P [] _ (append-nil (P ++ [])) h e
    join_stored false c (settled White) (settled White) P h e = falls P [] _ (append-nil (P ++ [])) h e
    join_stored false c (settled White) (settled Black) P h e = falls P [] _ (append-nil (P ++ [])) h e
    join_stored false c (settled Black) (settled White) P h e = falls P [] _ (append-nil (P ++ [])) h e
    join_stored false c (settled Black) (settled Black) P h e = falls P [] _ (append-nil (P ++ [])) h e
    join_stored true c (settled White) (still q) P h e = falls P (postfix q) _ (ap (λ (l : List Node). l ++ postfix q) (append-nil P)) h e
    join_stored true c (settled Black) (still q) P h e = stays _ (P ++ postfix q) (ap (λ (l : List Node). l ++ postfix q) (append-nil P)) h e
    join_stored false c (settled White) (still q) P h e = stays _ (P ++ postfix q) (ap (λ (l : List Node). l ++ postfix q) (append-nil P)) h e
    join_stored false c (settled Black) (still q) P h e = falls P (postfix q) _ (ap (λ (l : List Node). l ++ postfix q) (append-nil P)) h e
    join_stored true c (still p) (settled White) P h e = falls P (postfix p) _ (append-nil (P ++ postfix p)) h e
    join_stored true c (still p) (settled Black) P h e = stays _ (P ++ postfix p) (append-nil (P ++ postfix p)) h e
    join_stored false c (still p) (settled White) P h e = stays _ (P ++ postfix p) (append-nil (P ++ postfix p)) h e
    join_stored false c (still p) (settled Black) P h e = falls P (postfix p) _ (append-nil (P ++ postfix p)) h e
    join_stored true c (still p) (still q) P h e =
        grows (joining true) c ((P ++ postfix p) ++ postfix q) (P ++ (postfix p ++ (postfix q ++ (joining true ∷ [])))) (simp append_assoc) h e
    join_stored false c (still p) (still q) P h e =
        grows (joining false) c ((P ++ postfix p) ++ postfix q) (P ++ (postfix p ++ (postfix q ++ (joining false ∷ [])))) (simp append_assoc) h e

end_few : (c a b start end : ℕ) → start ≤ end → end_after c a b start end ≤ end + 1
end_few c a b start end m = by (eqb c 0) (eqb a 0) (eqb b 0)
  where
    by : (p q r : Bool) → cond p (cond q (cond r (end + 1) end) end) start ≤ end + 1
    by true true true = omega arith
    by true true false = omega arith
    by true false r = omega arith
    by false q r = omega arith

-- ---- the loop's invariant, and what each code does to it
module _ {surfaces : Surfaces} {axes : ℕ} {low side codes : List ℕ} {from count : ℕ} where
  abbrev block_of : PruneJob surfaces axes low side codes from count → Block
  block_of job = block_at job.at

  pub record Going (job : PruneJob surfaces axes low side codes from count) (now starts marks : List ℕ) (pending end i : ℕ) : Type 0 where
    pub shapes : List Plain
    pub rest : List Node
    pub reads : Reads (named surfaces) rest shapes (last_first job.carried.trees)
    pub coming : HoldsCodes now i rest
    pub onward : i + length rest ≡ from + count
    pub begun : from ≤ i
    pub few : pending ≤ most_shapes
    pub starts_long : length starts ≡ most_shapes
    pub marks_long : length marks ≡ most_shapes
    pub starts_are : stack_of starts pending ≡ starts_of (marks_over surfaces (block_of job)) (from + count) shapes
    pub marks_are : stack_of marks pending ≡ codes_of (marks_over surfaces (block_of job)) shapes
    pub end_is : end ≡ from + count + length (written (marks_over surfaces (block_of job)) shapes)
    pub within : end ≤ count + i
    pub done : HoldsCodes now (from + count) (written (marks_over surfaces (block_of job)) shapes)
    pub below : SameCodes (from + count) codes now

  module _ (job : PruneJob surfaces axes low side codes from count) where
    abbrev over : Bool → Surface → Mark
    over = marks_over surfaces (block_of job)

    abbrev to : ℕ
    to = from + count

    pub going_start : {starts marks : List ℕ} → Shelves starts marks → Going job codes starts marks 0 to from
    going_start s =
        record {
          shapes = [];
          rest = all_postfix job.carried.trees;
          reads = reads_all job.carried.few;
          coming = job.carried.holds;
          onward = omega (arith, job.carried.counted);
          begun = omega arith;
          few = omega arith;
          starts_long = s.starts_long;
          marks_long = s.codes_long;
          starts_are = refl;
          marks_are = refl;
          end_is = omega arith;
          within = omega arith;
          done = no_code;
          below = same_itself;
        }

    module _ {now starts marks : List ℕ} {pending end i : ℕ} (g : Going job now starts marks pending end i) where
      pub shelves_kept : Shelves starts marks
      shelves_kept = record { starts_long = g.starts_long; codes_long = g.marks_long }

      count_is : pending ≡ length g.shapes
      count_is = sym (length_stack marks pending) ∙ ap length g.marks_are ∙ length_codes over g.shapes

      module _ (h : i < from + count) where
        pub store_in : end < length now
        store_in = omega (arith, job.room, g.within, g.below.long)

        pub read_in : i < length now
        read_in = omega (arith, job.carried.inside, g.below.long)

        abbrev read : ℕ
        read = get_or now i 0

        -- it is read as it was, so that the value of its row is carried
        pub leaf_value : {rows values : List ℤ} → RightValues rows low codes from count values → ValueOf rows low values read
        leaf_value {rows} {values} at = subst (ValueOf rows low values) (sym (g.below.same i h)) (value_here at g.begun h)

        -- the codes to come are not met by what is stored
        coming_kept : (ns : List Node) → suc i + length ns ≡ from + count → HoldsCodes now (suc i) ns → HoldsCodes (set now end read) (suc i) ns
        coming_kept ns e hs = stored_behind read (omega (arith, g.end_is)) hs

        -- what stands next: a leaf, or an operator
        pub record LeafNext : Type 0 where
          pub tree : Plain
          pub leaf : Node
          pub later : List Node
          pub stands : LeafOf (named surfaces) tree leaf
          pub room : length g.shapes < most_shapes
          pub is : read ≡ node_code leaf
          pub reads : Reads (named surfaces) later (tree ∷ g.shapes) (last_first job.carried.trees)
          pub coming : HoldsCodes now (suc i) later
          pub onward : suc i + length later ≡ from + count

        leaf_next : is_join read ≡ false → LeafNext
        leaf_next o = by g.reads g.coming g.onward refl
          where
            by : {ns : List Node} {ps : List Plain} → Reads (named surfaces) ns ps (last_first job.carried.trees) → HoldsCodes now i ns →
                i + length ns ≡ from + count → g.shapes ≡ ps → LeafNext
            by ended c e s = absurd (omega arith)
            by (pushed {t = t} {n = n} {ns = ns} l f r) (code x hs) e s =
                record {
                  tree = t;
                  leaf = n;
                  later = ns;
                  stands = l;
                  room = rw s f;
                  is = x;
                  reads = rw s r;
                  coming = hs;
                  onward = omega arith;
                }
            by (joined {meet = meet} r) (code x hs) e s = absurd (false≢true (sym o ∙ ap is_join x ∙ (join_code_lem meet).0))

        pub record JoinNext : Type 0 where
          pub meet : Bool
          pub first : Plain
          pub second : Plain
          pub under : List Plain
          pub later : List Node
          pub shapes_are : g.shapes ≡ second ∷ first ∷ under
          pub is : read ≡ node_code (joining meet)
          pub reads : Reads (named surfaces) later (join_plain meet first second ∷ under) (last_first job.carried.trees)
          pub coming : HoldsCodes now (suc i) later
          pub onward : suc i + length later ≡ from + count

        join_next : is_join read ≡ true → JoinNext
        join_next o = by g.reads g.coming g.onward refl
          where
            by : {ns : List Node} {ps : List Plain} → Reads (named surfaces) ns ps (last_first job.carried.trees) → HoldsCodes now i ns →
                i + length ns ≡ from + count → g.shapes ≡ ps → JoinNext
            by ended c e s = absurd (omega arith)
            by (pushed l f r) (code x hs) e s = absurd (false≢true (sym (leaf_code l) ∙ sym (ap is_join x) ∙ o))
            by (joined {meet = meet} {ns = ns} {p = p} {q = q} {ps = ps} r) (code x hs) e s =
                record {
                  meet = meet;
                  first = p;
                  second = q;
                  under = ps;
                  later = ns;
                  shapes_are = s;
                  is = x;
                  reads = r;
                  coming = hs;
                  onward = omega arith;
                }

        -- ---- a leaf
        module _ (o : is_join read ≡ false) where
          abbrev next : LeafNext
          next = leaf_next o

          pub leaf_room : pending < most_shapes
          leaf_room = omega (arith, count_is, next.room)

          pub leaf_job : LeafJob surfaces axes low side read
          leaf_job = record { left = job.left; at = job.at; tree = next.tree; leaf = next.leaf; stands = next.stands; code_is = next.is }

          module _ {bits : ℕ} (judged : LeafJudged leaf_job bits) where
            bits_are : bits ≡ left_bits (left_by over next.tree)
            unfolding leaf_job
            bits_are = judged.judged

            leaf_done : HoldsCodes (set now end read) to (written over (next.tree ∷ g.shapes))
                × (end_after bits 0 0 end end ≡ to + length (written over (next.tree ∷ g.shapes)))
            leaf_done =
                rw bits_are
                (leaf_stored now to end read store_in next.stands next.is (left_by over next.tree) (written over g.shapes)
                (leaf_left over next.stands) g.done g.end_is)

            pub going_leaf : {later : ℕ} → later ≡ end_after bits 0 0 end end →
                Going job (set now end read) (set starts pending end) (set marks pending bits) (pending + 1) later (i + 1)
            going_leaf {later} el =
                let room = leaf_room in
                rw (add-one i) (record {
                  shapes = next.tree ∷ g.shapes;
                  rest = next.later;
                  reads = next.reads;
                  coming = coming_kept next.later next.onward next.coming;
                  onward = next.onward;
                  begun = omega (arith, g.begun);
                  few = omega (arith, room);
                  starts_long = length-set starts pending end ∙ g.starts_long;
                  marks_long = length-set marks pending bits ∙ g.marks_long;
                  starts_are = stack_push starts pending end (omega (arith, g.starts_long)) ∙ ap₂ ◌∷◌ g.end_is g.starts_are;
                  marks_are = stack_push marks pending bits (omega (arith, g.marks_long)) ∙ ap₂ ◌∷◌ bits_are g.marks_are;
                  end_is = el ∙ leaf_done.1;
                  within = omega (arith, g.within, el, end_few bits 0 0 end end (omega arith));
                  done = leaf_done.0;
                  below = same_stored read g.below (omega (arith, g.end_is));
                })

        -- ---- an operator
        module _ (o : is_join read ≡ true) where
          abbrev next_join_lem : JoinNext
          next_join_lem = join_next o

          abbrev l : Left
          l = left_by over next_join_lem.first

          abbrev r : Left
          r = left_by over next_join_lem.second

          abbrev P : List Node
          P = written over next_join_lem.under

          meet_is : is_meet read ≡ next_join_lem.meet
          meet_is = ap is_meet next_join_lem.is ∙ (join_code_lem next_join_lem.meet).1

          pub join_two : 2 ≤ pending
          join_two = omega (arith, count_is, ap length next_join_lem.shapes_are)

          marks_two : get_or marks (pending - 1) 0 ∷ get_or marks (pending - 2) 0 ∷ stack_of marks (pending - 2) ≡ left_bits r ∷ left_bits l ∷ codes_of over
              next_join_lem.under
          marks_two = sym (stack_two marks pending join_two) ∙ g.marks_are ∙ ap (codes_of over) next_join_lem.shapes_are

          starts_two : get_or starts (pending - 1) 0 ∷ get_or starts (pending - 2) 0 ∷ stack_of starts (pending - 2)
              ≡ (to + length (P ++ left_nodes l)) ∷ (to + length P) ∷ starts_of over to next_join_lem.under
          starts_two = sym (stack_two starts pending join_two) ∙ g.starts_are ∙ ap (starts_of over to) next_join_lem.shapes_are

          starts_last : get_or starts (pending - 1) 0 ∷ stack_of starts (pending - 1)
              ≡ (to + length (P ++ left_nodes l)) ∷ (to + length P) ∷ starts_of over to next_join_lem.under
          starts_last = sym (stack_last starts pending (omega (arith, join_two))) ∙ g.starts_are ∙ ap (starts_of over to) next_join_lem.shapes_are

          first_is : get_or marks (pending - 2) 0 ≡ left_bits l
          first_is = let e = marks_two in cc

          second_is : get_or marks (pending - 1) 0 ≡ left_bits r
          second_is = let e = marks_two in cc

          start_is : get_or starts (pending - 2) 0 ≡ to + length P
          start_is = let e = starts_two in cc

          under_marks : stack_of marks (pending - 2) ≡ codes_of over next_join_lem.under
          under_marks = let e = marks_two in cc

          under_starts : stack_of starts (pending - 1) ≡ (to + length P) ∷ starts_of over to next_join_lem.under
          under_starts = let e = starts_last in cc

          whole_left : left_by over (join_plain next_join_lem.meet next_join_lem.first next_join_lem.second) ≡ join_left next_join_lem.meet l r
          whole_left = left_join over next_join_lem.meet next_join_lem.first next_join_lem.second

          join_done : HoldsCodes (set now end read) to (P ++ left_nodes (join_left next_join_lem.meet l r))
              × (end_after (left_bits (join_left next_join_lem.meet l r)) (left_bits l) (left_bits r) (to + length P) end
              ≡ to + length (P ++ left_nodes (join_left next_join_lem.meet l r)))
          join_done =
              let done = rw next_join_lem.shapes_are at g.done in
              let ends = rw next_join_lem.shapes_are at g.end_is in
              join_stored now to end read store_in next_join_lem.meet next_join_lem.is l r P done ends

          start_most : get_or starts (pending - 2) 0 ≤ end
          start_most =
              omega (
                arith,
                start_is,
                g.end_is,
                ap (λ (l : List Plain). length (written over l)) next_join_lem.shapes_are,
                length-append (P ++ left_nodes l) (left_nodes r),
                length-append P (left_nodes l),
              )

          module _ {bits : ℕ} (e : bits ≡ joined_code (is_meet read) (get_or marks (pending - 2) 0) (get_or marks (pending - 1) 0)) where
            joined_are : bits ≡ left_bits (join_left next_join_lem.meet l r)
            joined_are = e ∙ rw (meet_is, first_is, second_is) (bits_join next_join_lem.meet l r)

            pub going_join : {later : ℕ} →
                later ≡ end_after bits (get_or marks (pending - 2) 0) (get_or marks (pending - 1) 0) (get_or starts (pending - 2) 0) end →
                Going job (set now end read) starts (set marks (pending - 2) bits) (pending - 1) later (i + 1)
            going_join {later} el =
                let le : later ≡ end_after (left_bits (join_left next_join_lem.meet l r)) (left_bits l) (left_bits r) (to + length P) end =
                rw (joined_are, first_is, second_is, start_is) at el in
                rw (add-one i) (record {
                  shapes = join_plain next_join_lem.meet next_join_lem.first next_join_lem.second ∷ next_join_lem.under;
                  rest = next_join_lem.later;
                  reads = next_join_lem.reads;
                  coming = coming_kept next_join_lem.later next_join_lem.onward next_join_lem.coming;
                  onward = next_join_lem.onward;
                  begun = omega (arith, g.begun);
                  few = omega (arith, g.few);
                  starts_long = g.starts_long;
                  marks_long = length-set marks (pending - 2) bits ∙ g.marks_long;
                  starts_are = under_starts;
                  marks_are =
                      stack_joined marks pending bits join_two (omega (arith, g.few, g.marks_long))
                      ∙ ap₂ ◌∷◌ (joined_are ∙ ap left_bits (sym whole_left)) under_marks;
                  end_is = rw whole_left (le ∙ join_done.1);
                  within = omega (
                    arith,
                    g.within,
                    el,
                    end_few bits (get_or marks (pending - 2) 0) (get_or marks (pending - 1) 0) (get_or starts (pending - 2) 0) end start_most,
                  );
                  done = rw whole_left join_done.0;
                  below = same_stored read g.below (omega (arith, g.end_is));
                })

      -- ---- the end: the trees themselves are pending
      module _ (h : from + count ≤ i) where
        shapes_end : g.shapes ≡ last_first job.carried.trees
        shapes_end = by g.reads g.onward
          where
            by : {ns : List Node} {ps fs : List Plain} → Reads (named surfaces) ns ps fs → i + length ns ≡ from + count → ps ≡ fs
            by ended e = refl
            by (pushed l f r) e = absurd (omega arith)
            by (joined r) e = absurd (omega arith)

        pub end_past : from + count ≤ end
        end_past = omega (arith, g.end_is)

        pub going_end : {mark : ℕ} → mark ≡ whole_mark marks pending → PrunedCodes job now mark (end - (from + count))
        going_end {mark} m =
            let w = by job.carried.few shapes_end in
            let left = ap all_postfix (left_over surfaces (block_of job) job.carried.trees) in
            let nodes : written over g.shapes ≡ all_postfix (all_left surfaces job.carried.trees (block_of job)) = w.1 ∙ left in
            record {
              judged = w.0 ∙ ap bits_of (judged_over surfaces (block_of job) job.carried.trees);
              counted = omega (arith, g.end_is, ap length nodes);
              holds = rw nodes at g.done;
              below = g.below;
            }
          where
            by : {ps : List Plain} → OneOrTwo (named surfaces) ps → g.shapes ≡ last_first ps →
                (mark ≡ bits_of (all_mark_by over ps)) × (written over g.shapes ≡ all_postfix (all_left_by over ps))
            by (one {p} c) e =
                let n : pending ≡ 1 = count_is ∙ ap length e in
                let s : stack_of marks 1 ≡ left_bits (left_by over p) ∷ [] = ap (stack_of marks) (sym n) ∙ g.marks_are ∙ ap (codes_of over) e in
                let f : get_or marks 0 0 ≡ left_bits (left_by over p) = cc in
                (m ∙ rw (n, f) (one_mark over p), ap (written over) e ∙ one_nodes over p)
            by (two {p} {q} c d) e =
                let n : pending ≡ 2 = count_is ∙ ap length e in
                let s : stack_of marks 2 ≡ left_bits (left_by over q) ∷ left_bits (left_by over p) ∷ [] =
                ap (stack_of marks) (sym n) ∙ g.marks_are ∙ ap (codes_of over) e in
                let f : get_or marks 0 0 ≡ left_bits (left_by over p) = cc in
                let k : get_or marks 1 0 ≡ left_bits (left_by over q) = cc in
                (m ∙ rw (n, f, k) (two_mark over p q), ap (written over) e ∙ two_nodes over p q)
