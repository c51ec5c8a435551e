-- The whole universe: the codes of both trees, one behind the other; the block that the recursions begin with; and what they come to, which is the trees'
-- verdict over the window and its ends.
use Prim.Native.Nat.{ℕ, suc, ◌+◌, ◌*◌, ◌^◌, ◌≤◌, ◌<◌}
use mathlib.Core.Path.{◌≡◌, refl, sym, ap, ap₂, ◌∙◌, subst}
use mathlib.Core.Bool.{Bool, true, false}
use mathlib.Core.List.{List, [], ◌∷◌, ◌++◌}
use native.Mathlib.Omega.{arith}
use native.Mathlib.Nat.{mul-le-mul}
use lib.IntN.{ℤ, pos}
use lib.ListN.{length, get_or, replicate, length-replicate, length-append}
use lib.Pow.{pow_mono}
use Rattle.std.specs.Prelude.{Some, None}
use Rattle.universe.specs.declared.Universe.{Universe}
use Rattle.universe.specs.declared.Block.{Block}
use Rattle.universe.specs.Universe.{most_axes, most_levels, universe_refusal, levels, frame_axis}
use Rattle.universe.specs.Questions.{levels_answer}
use Rattle.universe.specs.Block.{Given, first, whole_block}
use Rattle.universe.proofs.Universes.{accepted, levels_few, side_few}
use Rattle.universe.proofs.Questions.{levels_told}
use Rattle.bintree.specs.declared.Contact.{Contact}
use Rattle.bintree.specs.declared.Verdict.{Verdict}
use Rattle.bintree.specs.declared.Verdict.TheVariants.{Clear, Hit}
use Rattle.bintree.specs.Verdicts.{verdict}
use Rattle.bintree.specs.Windows.{no_contact, verdict_of}
use Rattle.csg.specs.Halfspace.{most_rows}
use Rattle.csg.specs.Surfaces.{Surfaces, named}
use Rattle.csg.specs.Tree.{Tree, plain}
use Rattle.csg.specs.Words.{most_words, tree_of}
use Rattle.csg.specs.Marks.{plain_colour, tree_colour}
use Rattle.csg.specs.Raw.{raw, both}
use Rattle.csg.proofs.Words.{accepted_length}
use Rattle.demands.specs.Voxels.{Colouring}
use Rattle.demands.specs.Verdicts.{Judges}
use Rattle.demands.proofs.Theorems.{verdict_of_trees}
use Rattle.convert.specs.Blocks.{block_left, whole_sides}
use Rattle.convert.proofs.Blocks.{whole_standing, whole_is}
use Rattle.masks.specs.Block.{voxel_at}
use Rattle.masks.specs.Windows.{windowed}
use Rattle.masks.specs.Ends.{end_in}
use Rattle.masks.specs.Contacts.{contact_in}
use Rattle.masks.proofs.Block.{left_whole}
use Rattle.masks.proofs.Windows.{in_frames}
use Rattle.bintree.specs.declared.Colour.TheVariants.{White}
use Rattle.masks.proofs.Contacts.{trees_verdict, trees_first, trees_last, trees_none}
use Rattle.pruned.specs.Left.{all_colour}
use Rattle.pruned.specs.Nodes.{Node, postfix, all_postfix, two, most_shapes}
use Rattle.pruned.proofs.Looked.{two_stand}
use Rattle.pruned.proofs.Loads.{words_carried}
use Rattle.pruned.proofs.Steps.{rows_few, rows_small, balls_few}
use Rattle.at_once.specs.Both.{BothShelves}
use Rattle.at_once.specs.Codes.{HoldsCodes, no_code, code}
use Rattle.at_once.specs.Words.{Tabled}
use Rattle.at_once.specs.Loading.{LoadJob, LoadedCodes}
use Rattle.at_once.specs.Counting.{BlockJob, contact_over, end_over, CountJob, PutBack}
use Rattle.at_once.specs.Whole.{most_codes, both_trees, BothJob, BothLoaded, WholeReady}
use Rattle.at_once.specs.Answers.{span_of}
use Rattle.at_once.specs.Values.{is_row_side}
use Rattle.at_once.specs.Words.{RowNamed}
use Rattle.at_once.specs.Moves.{row_of, ValuesAt, BeginJob, Begun}
use Rattle.at_once.proofs.Moving.{named_rows, begun_values}
use Rattle.at_once.proofs.Jobs.{codes_same, carrying_same}
use Rattle.at_once.proofs.Counting.{contact_agree, end_agree, voxels_few}

-- ---- both trees loaded
codes_join : {room : List ℕ} {at : ℕ} (ns ms : List Node) → HoldsCodes room at ns → HoldsCodes room (at + length ns) ms → HoldsCodes room at (ns ++ ms)
codes_join {at = at} [] ms no_code r = let e : at + 0 ≡ at = omega arith in rw e at r
codes_join {at = at} (n ∷ ns) ms (code c h) r =
    let e : at + suc (length ns) ≡ suc at + length ns = omega arith in
    code c (codes_join ns ms h (rw e at r))

module _ {rows : List ℤ} {first second codes starts : List ℕ} {values : List ℤ} (job : BothJob rows first second codes starts values) where
  pub first_load : LoadJob first codes 0 starts
  first_load =
      record {
        names = job.names;
        few_rows = job.few_rows;
        few_balls = job.few_balls;
        accepted = job.accepted_first;
        inside = omega (arith, job.inside);
        starts_long = job.starts_long;
      }

  module _ {codes₁ starts₁ : List ℕ} (l : LoadedCodes first_load codes₁ starts₁) where
    pub second_load : LoadJob second codes₁ (length first) starts₁
    second_load =
        record {
          names = job.names;
          few_rows = job.few_rows;
          few_balls = job.few_balls;
          accepted = job.accepted_second;
          inside = omega (arith, job.inside, l.below.long);
          starts_long = l.starts_long;
        }

    module _ {codes₂ starts₂ : List ℕ} (m : LoadedCodes second_load codes₂ starts₂) where
      both_hold : HoldsCodes codes₂ 0 (all_postfix (both_trees job.names first second))
      unfolding first_load second_load all_postfix
      both_hold =
          let p = plain (tree_of job.names first) in
          let q = plain (tree_of job.names second) in
          let kept : HoldsCodes codes₂ 0 (postfix p) = codes_same (λ k x y. m.below.same k (omega (arith, l.counted))) l.holds in
          let e : 0 + length (postfix p) ≡ length first = omega (arith, l.counted) in
          let behind : HoldsCodes codes₂ (0 + length (postfix p)) (postfix q ++ []) = rw e (codes_join (postfix q) [] m.holds no_code) in
          codes_join (postfix p) (postfix q ++ []) kept behind

      both_count : length first + length second ≡ length (all_postfix (both_trees job.names first second))
      unfolding first_load second_load all_postfix
      both_count =
          let p = plain (tree_of job.names first) in
          let q = plain (tree_of job.names second) in
          omega (arith, l.counted, m.counted, length-append (postfix p) (postfix q ++ []), length-append (postfix q) [])

      both_long : length codes₂ ≡ length codes
      both_long = m.below.long ∙ l.below.long

      pub begin_job : BeginJob rows codes₂ (length first + length second) values
      begin_job =
          record {
            few_rows = omega (arith, job.few_rows, job.rows_are);
            inside = omega (arith, job.inside, both_long);
            bounded = omega (arith, job.bounded, both_long);
            values_long = job.values_long;
            named = λ k h. let z : 0 + k ≡ k = omega arith in
                subst (λ (j : ℕ). is_row_side (get_or codes₂ j 0) ≡ true → RowNamed rows (row_of (get_or codes₂ j 0))) z (named_rows job.rows_are job.small
                (two (words_carried job.names first job.accepted_first) (words_carried job.names second job.accepted_second))
                both_hold both_count k h);
          }

      pub both_loaded : {values' : List ℤ} → Begun rows codes₂ (length first + length second) values' → BothLoaded job codes₂ starts₂ values'
      both_loaded begun =
          record { holds = both_hold; counted = both_count; long = both_long; begun = begun; starts_long = m.starts_long }

-- the arrays of codes, and of what is pending
pub codes_long : length (replicate {A = ℕ} most_codes 0) ≡ most_codes
codes_long = length-replicate {A = ℕ} most_codes 0

pub shelf_long : length (replicate {A = ℕ} most_shapes 0) ≡ most_shapes
shelf_long = length-replicate {A = ℕ} most_shapes 0

pub shelves_long : BothShelves (replicate {A = ℕ} most_shapes 0) (replicate {A = ℕ} most_shapes 0)
shelves_long = record { belows_long = shelf_long; aboves_long = shelf_long }

-- ---- the whole universe
module _ {u : Universe} {surfaces : Surfaces} {words₁ words₂ : List ℕ} {from to : ℕ} (r : WholeReady u surfaces words₁ words₂ from to) where
  abbrev e : universe_refusal u ≡ 0
  e = r.scene.accepted_universe

  abbrev s : Tree
  s = tree_of (named surfaces) words₁

  abbrev t : Tree
  t = tree_of (named surfaces) words₂

  abbrev count : ℕ
  count = length words₁ + length words₂

  pub past_fits : to + 1 < 2 ^ 64
  past_fits =
      let a = accepted u e in
      omega (arith, in_frames u a (λ v. White) from to r.window, side_few u a (frame_axis u))

  pub few_words : count ≤ 2 * most_words
  few_words = omega (arith, accepted_length (named surfaces) words₁ r.accepted_first, accepted_length (named surfaces) words₂ r.accepted_second)

  pub both_job : {codes starts : List ℕ} → length codes ≡ most_codes → length starts ≡ most_shapes →
      BothJob surfaces.rows words₁ words₂ codes starts (replicate {A = ℤ} most_rows (pos 0))
  both_job long shelf =
      record {
        names = named surfaces;
        rows_are = refl;
        small = rows_small r.scene;
        few_rows = rows_few u surfaces.rows r.scene.accepted_rows;
        few_balls = balls_few u surfaces.balls r.scene.accepted_balls;
        accepted_first = r.accepted_first;
        accepted_second = r.accepted_second;
        inside = omega (arith, few_words);
        bounded = omega (arith, long);
        starts_long = shelf;
        values_long = length-replicate {A = ℤ} most_rows (pos 0);
      }

  module _ {left : ℕ} (l : left ≡ levels_answer u) where
    left_is : left ≡ levels u
    left_is = levels_told u refl e l

    pub block_is : block_left u left (replicate most_axes 0) ≡ whole_block u
    block_is = ap (λ (n : ℕ). block_left u n (replicate most_axes 0)) left_is ∙ whole_is u

    module _ {table lengths side codes codes₁ starts starts₁ : List ℕ} {values₁ : List ℤ} (long : length codes ≡ most_codes) (shelf : length starts ≡ most_shapes)
        (tabled : Tabled u table lengths) (sides : side ≡ whole_sides u)
        (loaded : BothLoaded {codes = codes} {starts = starts} (both_job {codes = codes} {starts = starts} long shelf) codes₁ starts₁ values₁) where
      abbrev Whole : List ℕ → Type 0
      Whole codes' = BlockJob surfaces u.axes table lengths (replicate most_axes 0) side left codes' 0 count (left + 1)

      pub whole_values : ValuesAt surfaces.rows (replicate most_axes 0) codes₁ 0 count values₁ (replicate most_rows 0) 0
      whole_values = begun_values loaded.begun

      pub whole_job : Whole codes₁
      unfolding both_job
      whole_job =
          let few : left + 1 ≤ suc most_levels = omega (arith, left_is, levels_few u (accepted u e)) in
          let room : (left + 1) * count ≤ suc most_levels * (2 * most_words) = mul-le-mul few few_words in
          record {
            at = record {
              universe = u;
              scene = r.scene;
              axes_are = refl;
              standing = rw (left_is, sides) (whole_standing u e);
              given = subst Given (sym block_is) (first u e);
            };
            tabled = tabled;
            carrying = record {
              trees = both_trees (named surfaces) words₁ words₂;
              few = two (words_carried (named surfaces) words₁ r.accepted_first) (words_carried (named surfaces) words₂ r.accepted_second);
              counted = loaded.counted;
              holds = loaded.holds;
              inside = omega (arith, loaded.long, few_words);
            };
            room = omega (arith, loaded.long);
            bounded = omega (arith, loaded.long);
          }

      pub whole_is_of : (whole_job.at.universe ≡ u) × (whole_job.carrying.trees ≡ both_trees (named surfaces) words₁ words₂)
      unfolding whole_job
      whole_is_of = (refl, refl)

      abbrev colours : Colouring
      colours = tree_colour surfaces u (both s t)

      same_colours : (i : ℕ) → all_colour surfaces u (both_trees (named surfaces) words₁ words₂) (voxel_at (levels u) (whole_block u) i)
          ≡ colours (voxel_at (levels u) (whole_block u) i)
      same_colours i = (two_stand surfaces s t).colours u (voxel_at (levels u) (whole_block u) i)

      whole_contact : (k : Contact) → contact_over from to whole_job k ≡ contact_in from to colours (levels u) (whole_block u) k
      unfolding whole_job
      whole_contact k =
          ap₂ (λ (n : ℕ) (b : Block). contact_in from to (all_colour surfaces u (both_trees (named surfaces) words₁ words₂)) n b k) left_is block_is
          ∙ contact_agree from to (levels u) (whole_block u) (left_whole u e) _ colours same_colours k

      whole_end : (backward : Bool) (known : ℕ) → end_over backward from to whole_job known
          ≡ end_in backward (windowed u from to colours) (levels u) (whole_block u) known
      unfolding whole_job
      whole_end backward known =
          ap₂ (λ (n : ℕ) (b : Block). end_in backward (windowed u from to (all_colour surfaces u (both_trees (named surfaces) words₁ words₂))) n b known)
          left_is block_is
          ∙ end_agree from to (levels u) (whole_block u) (left_whole u e) _ colours same_colours backward known

      -- the verdict
      pub whole_count : CountJob surfaces u.axes table lengths (replicate most_axes 0) side left codes₁ 0 count (left + 1) from to (no_contact from to)
      whole_count =
          record {
            block = whole_job;
            counts = omega (
              arith,
              ap (λ (x : Contact). x.voxels) (whole_contact (no_contact from to)),
              voxels_few from to colours (levels u) (whole_block u) (no_contact from to) (left_whole u e),
              pow_mono {i = levels u} {j = most_levels} (levels_few u (accepted u e)),
            );
          }

      pub whole_verdict : {k : Contact} {x : Verdict} → k ≡ contact_over from to whole_count.block (no_contact from to) → x ≡ verdict_of k →
          x ≡ verdict u (raw u surfaces (both s t)) from to
      unfolding whole_count
      whole_verdict f g =
          g ∙ ap verdict_of (f ∙ whole_contact (no_contact from to)) ∙ sym (trees_verdict u e surfaces s t from to r.window)

      -- and its ends
      abbrev x : Verdict
      x = verdict u (raw u surfaces (both s t)) from to

      judged : Judges u colours from to x
      unfolding plain plain_colour
      judged = verdict_of_trees u e surfaces s t from to r.window

      bounds : (c : Contact) → x ≡ Hit c → (c.first ≤ to) × (c.first ≤ c.last)
      bounds c q =
          let h = judged.hit_touches c q in
          (omega (arith, h.first_frame, h.earliest.to), omega (arith, h.last_frame, h.none_before h.latest))

      module _ {past sooner : ℕ} (p : past ≡ to + 1) (f : sooner ≡ end_over false from to whole_job past) where
        sooner_hit : (c : Contact) → x ≡ Hit c → sooner ≡ c.first
        sooner_hit c q =
            f ∙ whole_end false past ∙ trees_first u e surfaces s t from to r.window c q past (omega (arith, (bounds c q).0))

        pub span_clear : sooner ≡ past → None ≡ span_of x
        span_clear z = go x refl
          where
            go : (y : Verdict) → x ≡ y → None ≡ span_of x
            go Clear q = rw q
            go (Hit c) q = absurd (omega (arith, sooner_hit c q, (bounds c q).0))

        pub span_hit : (sooner ≡ past → ⊥) → {later : ℕ} → later ≡ end_in true (windowed u from to colours) (levels u) (whole_block u) sooner →
            Some (record { first = sooner; last = later }) ≡ span_of x
        span_hit n {later} g = go x refl
          where
            go : (y : Verdict) → x ≡ y → Some (record { first = sooner; last = later }) ≡ span_of x
            go Clear q = absurd (n (f ∙ whole_end false past ∙ trees_none u e surfaces s t from to r.window q false past))
            go (Hit c) q =
                let a = sooner_hit c q in
                let b = g ∙ trees_last u e surfaces s t from to r.window c q sooner (omega (arith, (bounds c q).1)) in
                rw (q, a, b)

        -- the codes of the whole universe stay, and so do its arrays: the last frame is sought as the first was
        module _ {low₁ side₁ codes₂ : List ℕ} (b : PutBack (0 + count) (replicate most_axes 0) side codes₁ low₁ side₁ codes₂) where
          again : Whole codes₂
          unfolding whole_job
          again =
              record {
                at = whole_job.at;
                tabled = tabled;
                carrying = carrying_same b.below whole_job.carrying;
                room = omega (arith, whole_job.room, b.below.long);
                bounded = omega (arith, whole_job.bounded, b.below.long);
              }

          abbrev Again : List ℕ → List ℕ → Type 0
          Again lows sides' = BlockJob surfaces u.axes table lengths lows sides' left codes₂ 0 count (left + 1)

          pub again_job : Again low₁ side₁
          again_job = rw (b.lows, b.sides) again

          pub later_is : (known : ℕ) {later : ℕ} → ((j : Again low₁ side₁) → later ≡ end_over true from to j known) →
              later ≡ end_in true (windowed u from to colours) (levels u) (whole_block u) known
          unfolding again whole_job carrying_same
          later_is known {later} g =
              let h = subst (λ (l : List ℕ). (j : Again l side₁) → later ≡ end_over true from to j known) b.lows g in
              let i = subst (λ (l : List ℕ). (j : Again (replicate most_axes 0) l) → later ≡ end_over true from to j known) b.sides h in
              i again ∙ whole_end true known
