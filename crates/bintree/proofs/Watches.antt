-- What the walk of src/window.rt calls and carries: a black block joined to a contact; then what holds of a block and of its halves, and what an answer says of
-- the symbols. Each law takes its premises in the form that code leaves them.
use mathlib.Core.Path.{◌≡◌, refl, sym, ap, ◌∙◌}
use mathlib.Core.Bool.{cond}
use Prim.Native.Nat.{ℕ, suc, ◌+◌, ◌-◌, ◌*◌, ◌%◌, ◌^◌, ◌≤◌, ◌<◌, min, max}
use native.Mathlib.Nat.{mul-le-mul, eq_of_mul-eq-mul_left, le_refl, mod-eq_of_lt, pow-suc, sub_self}
use native.Mathlib.Decide.{dec_le}
use native.Mathlib.Omega.{arith}
use borrow.Author.Rules.{rules}
use borrow.Author.Tests.{le-leb, lt-leb}
use lib.Dec.{leb}
use lib.Pow.{pow_pos, pow_mono, pow-add}
use Rattle.lemmas.specs.Sums.{product}
use Rattle.lemmas.proofs.Machine.{shifted_one}
use Rattle.std.specs.Prelude.{Option, Some, None}
use Rattle.universe.specs.declared.Universe.{Universe}
use Rattle.universe.specs.Universe.{universe_refusal, levels, most_frame_bits, most_levels, longest_side, frame_axis, frame_count, block_side}
use Rattle.universe.proofs.Universes.{accepted, levels_few, side_few, voxels_left_lem}
use Rattle.bintree.specs.declared.Colour.TheVariants.{Black}
use Rattle.bintree.specs.declared.Contact.{Contact}
use Rattle.bintree.specs.declared.window.Window.{Window}
use Rattle.bintree.specs.declared.window.Watched.{Watched}
use Rattle.bintree.specs.Shape.{Shape, leaf, halved, size}
use Rattle.bintree.specs.Reading.{Reading, none, read}
use Rattle.bintree.specs.Counts.{volume_from, volume, frames, voxels_each}
use Rattle.bintree.specs.Verdicts.{window_length}
use Rattle.bintree.specs.Windows.{no_contact, with_frames, touched, contact_from, frame_bits, watched}
use Rattle.bintree.proofs.Counts.{block_voxels}
use Rattle.bintree.proofs.Owed.{bit_under}
use Rattle.bintree.proofs.Frames.{bits_left, bits_grow}

-- ---- 2 to the bits of so few frames, as code makes it
pub shifted : (bits : ℕ) → bits ≤ most_frame_bits → (1 * 2 ^ bits) % 2 ^ 64 ≡ 2 ^ bits
shifted bits h = shifted_one bits (omega arith)

-- so few frames or voxels have few bits
few_frames : (frame bits : ℕ) → frame + 2 ^ bits ≤ longest_side → bits ≤ most_frame_bits
few_frames frame bits h = bit_under {l = bits} {k = most_frame_bits} (omega arith)

few_voxels : (v n : ℕ) → v + 2 ^ n ≤ 2 ^ most_levels → n ≤ most_levels
few_voxels v n h = bit_under {l = n} {k = most_levels} (omega arith)

-- the laws of `touch`: `from` and `to` are the ends of the block's frames in the window
module _ (k : Contact) (first last frame bits rest : ℕ) (h : frame + 2 ^ bits ≤ longest_side) (most : k.voxels + 2 ^ (bits + rest) ≤ 2 ^ most_levels) where
  pub bits_fit : bits < 64
  bits_fit = omega (arith, few_frames frame bits h)

  pub rest_fit : rest < 64
  rest_fit = omega (arith, few_voxels k.voxels (bits + rest) most)

  pub some_frames : 1 ≤ (1 * 2 ^ bits) % 2 ^ 64
  some_frames = rw (shifted bits (few_frames frame bits h)) (pow_pos bits)

  pub end_fits : frame + ((1 * 2 ^ bits) % 2 ^ 64 - 1) < 2 ^ 64
  end_fits = rw (shifted bits (few_frames frame bits h)) (omega arith)

  module _ (from to : ℕ) (f : from ≡ max frame first) (g : to ≡ min (frame + ((1 * 2 ^ bits) % 2 ^ 64 - 1)) last) where
    last_is : to ≡ min (frame + (2 ^ bits - 1)) last
    last_is = rw (shifted bits (few_frames frame bits h)) at g

    pub touch_none : to < from → k ≡ touched k first last frame (2 ^ bits) (2 ^ rest)
    unfolding touched
    touch_none i = rw (← f, ← last_is, lt-leb from to i)

    module _ (i : from ≤ to) where
      count_most : (to - from + 1) * 2 ^ rest ≤ 2 ^ (bits + rest)
      count_most = rw (pow-add 2 bits rest) (mul-le-mul (omega (arith, last_is, pow_pos bits)) (omega arith))

      counted : ((to - from + 1) * 2 ^ rest) % 2 ^ 64 ≡ window_length from to * 2 ^ rest
      counted =
          let n : to - from + 1 ≡ window_length from to = omega arith in
          let a : (to - from + 1) * 2 ^ rest < 2 ^ 64 = omega (arith, count_most) in
          mod-eq_of_lt a ∙ ap (λ (x : ℕ). x * 2 ^ rest) n

      pub voxels_fit : k.voxels + ((to - from + 1) * 2 ^ rest) % 2 ^ 64 < 2 ^ 64
      voxels_fit = rw (mod-eq_of_lt (let a : (to - from + 1) * 2 ^ rest < 2 ^ 64 = omega (arith, count_most) in a)) (omega (arith, count_most))

      pub touch_some :
          (least greatest : ℕ) → least ≡ min k.first from → greatest ≡ max k.last to →
          record { first = least; last = greatest; voxels = k.voxels + ((to - from + 1) * 2 ^ rest) % 2 ^ 64 }
          ≡ touched k first last frame (2 ^ bits) (2 ^ rest)
      unfolding touched
      touch_some least greatest a b = rw (a, b, counted, ← f, ← last_is, le-leb from to i)

pub ruleset touch_laws = (rules, bits_fit, rest_fit, some_frames, end_fits, touch_none, voxels_fit, touch_some)

-- a contact joined with a black block counts at most all its voxels more
touched_most : (k : Contact) (first last frame n each : ℕ) → 0 < n → (touched k first last frame n each).voxels ≤ k.voxels + n * each
unfolding touched
touched_most k first last frame n each some = go (dec_le from to)
  where
    from : ℕ
    from = max frame first

    to : ℕ
    to = min (frame + (n - 1)) last

    go : Dec (from ≤ to) → (cond (leb from to) (with_frames k from to each) k).voxels ≤ k.voxels + n * each
    go (yes h) =
        let few : window_length from to ≤ n = omega arith in
        let most : window_length from to * each ≤ n * each = mul-le-mul few (le_refl each) in
        rw (le-leb from to h) (omega arith)
    go (no h) = rw (lt-leb from to (omega arith)) (omega arith)

-- where the frames of a block's high half begin
abbrev pub high_frame : ℕ → ℕ → ℕ → ℕ
high_frame frame bits below = frame + (2 ^ bits - 2 ^ below)

-- what the walk carries of a block: its levels left, its least frame, and the voxels that are counted before it or owed behind it
pub record Carried (u : Universe) (left frame voxels : ℕ) : Type 0 where
  pub accepts : universe_refusal u ≡ 0
  pub few : left ≤ levels u
  pub inside : frame + 2 ^ frame_bits u left ≤ frame_count u
  pub most : voxels + 2 ^ left ≤ 2 ^ levels u

-- the lengths of a block by the levels left
module _ (u : Universe) (left frame voxels : ℕ) (w : Carried u left frame voxels) where
  abbrev bits : ℕ
  bits = frame_bits u left

  pub carried_left : bits ≤ left
  carried_left = bits_left u w.accepts left w.few

  split : bits + (left - bits) ≡ left
  split = omega (arith, carried_left)

  frames_are : 2 ^ bits ≡ frames u (levels u - left)
  unfolding block_side frame_bits
  frames_are = refl

  pub each_are : 2 ^ (left - bits) ≡ voxels_each u (levels u - left)
  each_are =
      let some = (accepted u w.accepts).some_axes in
      let l = levels u - left in
      let all : 2 ^ bits * 2 ^ (left - bits) ≡ product u.axes (block_side u l) =
      sym (pow-add 2 bits (left - bits)) ∙ ap (λ (x : ℕ). 2 ^ x) split ∙ sym (voxels_left_lem u some left l (omega (arith, w.few))) in
      eq_of_mul-eq-mul_left (2 ^ bits) (pow_pos bits) (2 ^ (left - bits)) (voxels_each u l) (all ∙ sym (block_voxels u some l) ∙ rw frames_are)

  pub black_volume : 2 ^ left ≡ volume_from u (levels u - left) (leaf Black)
  unfolding volume_from
  black_volume = sym (voxels_left_lem u (accepted u w.accepts).some_axes left (levels u - left) (omega (arith, w.few)))

  pub black_touches :
      (first last : ℕ) (k j : Contact) → j ≡ touched k first last frame (2 ^ bits) (2 ^ (left - bits)) →
      j ≡ contact_from u first last (levels u - left) frame (leaf Black) k
  unfolding contact_from
  black_touches first last k j e = e ∙ rw (frames_are, each_are)

  pub black_most : (first last : ℕ) (k : Contact) → (touched k first last frame (2 ^ bits) (2 ^ (left - bits))).voxels ≤ k.voxels + 2 ^ left
  black_most first last k =
      omega (
        arith,
        touched_most k first last frame (2 ^ bits) (2 ^ (left - bits)) (pow_pos bits),
        pow-add 2 bits (left - bits),
        ap (λ (x : ℕ). 2 ^ x) split,
      )

  -- what `touch` asks
  pub touch_frames : frame + 2 ^ bits ≤ longest_side
  touch_frames = omega (arith, w.inside, side_few u (accepted u w.accepts) (frame_axis u))

  pub touch_voxels : voxels + 2 ^ (bits + (left - bits)) ≤ 2 ^ most_levels
  touch_voxels = rw split (omega (arith, w.most, pow_mono (levels_few u (accepted u w.accepts))))

  -- the halves of a block
  module _ (deep : left ≡ 0 → ⊥) where
    abbrev below : ℕ
    below = frame_bits u (left - 1)

    again : suc (left - 1) ≡ left
    again = omega arith

    next_level : levels u - (left - 1) ≡ suc (levels u - left)
    next_level = omega (arith, w.few)

    pub below_less : below ≤ bits
    below_less = rw again at (bits_grow u w.accepts (left - 1) (omega (arith, w.few)))

    halves_are : 2 ^ below ≡ frames u (suc (levels u - left))
    unfolding block_side frame_bits
    halves_are = rw next_level

    twice : 2 ^ (left - 1) + 2 ^ (left - 1) ≡ 2 ^ left
    twice = omega (arith, pow-suc 2 (left - 1), ap (λ (x : ℕ). 2 ^ x) again)

    -- the low half, before which at most the high half's voxels more are counted; and the frames of the high half
    pub low_carried : (more : ℕ) → more ≤ voxels + 2 ^ (left - 1) → Carried u (left - 1) frame more
    low_carried more h =
        record {
          accepts = w.accepts;
          few = omega (arith, w.few);
          inside = omega (arith, w.inside, pow_mono below_less);
          most = omega (arith, w.most, twice);
        }

    pub high_inside : high_frame frame bits below + 2 ^ below ≤ frame_count u
    high_inside = omega (arith, w.inside, pow_mono below_less)

    pub halves_volume :
        (a b : Shape) → volume_from u (levels u - (left - 1)) a + volume_from u (levels u - (left - 1)) b ≡ volume_from u (levels u - left) (halved a b)
    unfolding volume_from
    halves_volume a b = rw next_level

    pub halves_contact :
        (first last : ℕ) (a b : Shape) (k j c : Contact) →
        j ≡ contact_from u first last (levels u - (left - 1)) frame a k →
        c ≡ contact_from u first last (levels u - (left - 1)) (high_frame frame bits below) b j →
        c ≡ contact_from u first last (levels u - left) frame (halved a b) k
    unfolding contact_from
    halves_contact first last a b k j c f g = g ∙ rw (frames_are, halves_are, f, next_level)

-- the place after both halves
pub both_after : (p q t : ℕ) (a b : Shape) → q ≡ p + 1 + size a → t ≡ q + size b → t ≡ p + size (halved a b)
unfolding size
both_after p q t a b e f = omega arith

-- the place after the tree that is read at p and stands for a block with `left` levels left; and the n voxels and the contact found before, with the tree's
unfoldable pub seen : Window → ℕ → ℕ → ℕ → ℕ → Contact → Reading → Option Watched
seen v p left frame n k none = None
seen v p left frame n k (read a) =
    let u = v.accepted.universe in
    Some (record {
      end = p + size a;
      volume = n + volume_from u (levels u - left) a;
      contact = contact_from u v.first v.last (levels u - left) frame a k;
    })

module _ (v : Window) (p left frame n : ℕ) (k : Contact) where
  pub seen_none : {x : Reading} → x ≡ none → None ≡ seen v p left frame n k x
  unfolding seen
  seen_none e = rw e

  pub seen_read :
      (q m : ℕ) (j : Contact) (a : Shape) {x : Reading} → x ≡ read a → q ≡ p + size a →
      m ≡ n + volume_from v.accepted.universe (levels v.accepted.universe - left) a →
      j ≡ contact_from v.accepted.universe v.first v.last (levels v.accepted.universe - left) frame a k →
      Some (record { end = q; volume = m; contact = j }) ≡ seen v p left frame n k x
  unfolding seen
  seen_read q m j a e f g h = rw (e, f, g, h)

-- of the whole universe it is what the walk tells
pub seen_whole : (v : Window) (x : Reading) → seen v 0 (levels v.accepted.universe) 0 0 (no_contact v.first v.last) x ≡ watched v x
unfolding seen watched
seen_whole v none = refl
seen_whole v (read a) =
    let p : 0 + size a ≡ size a = omega arith in
    let n : 0 + volume v.accepted.universe a ≡ volume v.accepted.universe a = omega arith in
    rw (sub_self (levels v.accepted.universe), p, n)

-- what is read from an answer
module _ (v : Window) where
  pub nothing_none : (x : Reading) → None ≡ watched v x → x ≡ none
  unfolding watched
  nothing_none none e = refl
  nothing_none (read a) e = let z : ◌≡◌ {A = ℕ} 0 1 = cc in absurd (omega arith)

  pub record Reached (t : Watched) (x : Reading) : Type 0 where
    pub shape : Shape
    pub is : x ≡ read shape
    pub after : t.end ≡ size shape
    pub voxels : t.volume ≡ volume v.accepted.universe shape
    pub contact : t.contact ≡ contact_from v.accepted.universe v.first v.last 0 0 shape (no_contact v.first v.last)

  pub reached : (t : Watched) (x : Reading) → Some t ≡ watched v x → Reached t x
  unfolding watched
  reached t none e = let z : ◌≡◌ {A = ℕ} 0 1 = cc in absurd (omega arith)
  reached t (read a) e =
      let f : t ≡ record {
        end = size a;
        volume = volume v.accepted.universe a;
        contact = contact_from v.accepted.universe v.first v.last 0 0 a (no_contact v.first v.last);
      } = cc in
      record {
        shape = a;
        is = refl;
        after = ap (λ (z : Watched). z.end) f;
        voxels = ap (λ (z : Watched). z.volume) f;
        contact = ap (λ (z : Watched). z.contact) f;
      }
