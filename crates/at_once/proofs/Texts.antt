-- The text of a word: one symbol where its digits are alike, else `(` and the texts of its low and of its high digits, one behind the other. It has fewer than
-- two symbols for each digit.
use Prim.Native.Nat.{ℕ, zero, suc, ◌+◌, ◌-◌, ◌*◌, ◌/◌, ◌%◌, ◌^◌, ◌≤◌, ◌<◌}
use mathlib.Core.Path.{◌≡◌, refl, sym, ap, ap₂, ◌∙◌, subst}
use mathlib.Core.Bool.{Bool, true, false, cond}
use mathlib.Core.List.{List, [], ◌∷◌}
use native.Mathlib.Omega.{arith}
use native.Mathlib.Nat.{pow-suc, div-lt_iff_lt-mul, mod-lt}
use borrow.Author.Tests.{eq-eqb, ne_eqb}
use lib.Dec.{eqb}
use lib.ListN.{length, set, length-set}
use lib.Seq.{sets, length-sets, set_out}
use lib.Pow.{pow_pos, pow-add}
use lib.Bits.{bit_and, bit_or, bit_xor, or_zero_l}
use lib.Count.{ones}
use Rattle.lemmas.proofs.Stores.{sets_append}
use Rattle.bintree.specs.declared.Colour.TheVariants.{White, Black}
use Rattle.bintree.specs.Shape.{Shape, leaf, halved, open_symbol, symbols, size}
use Rattle.bintree.specs.Walks.{leaf_symbol, noted, laid}
use Rattle.bintree.proofs.Shape.{length_symbols}
use Rattle.bintree.proofs.Lays.{noted_some, laid_noted}
use Rattle.lemmas.specs.Sums.{sum}
use Rattle.masks.specs.Mask.{all_ones, mask_of}
use Rattle.masks.specs.Shapes.{mask_shape, mixed_mask, starts_mask, mask_size}
use Rattle.masks.proofs.Sizes.{mask_size_lem}
use Rattle.convert.specs.Shapes.{end_limit}
use Rattle.at_once.specs.Words.{word_levels}
use Rattle.at_once.specs.Merged.{LaidShape, TextJob, WrittenText, RoomyText}

-- ---- the shape of a word
pub white_word : (left word : ℕ) → word ≡ 0 → mask_shape left word ≡ leaf White
unfolding mask_shape
white_word zero word e = rw (eq-eqb word 0 e)
white_word (suc n) word e = rw (eq-eqb word 0 e)

pub black_word : (left word : ℕ) → (word ≡ 0 → ⊥) → word ≡ all_ones (2 ^ left) → mask_shape left word ≡ leaf Black
unfolding mask_shape
black_word zero word k e = rw (ne_eqb word 0 k)
black_word (suc n) word k e = rw (ne_eqb word 0 k, eq-eqb word (all_ones (2 ^ suc n)) e)

pub size_most : (left word : ℕ) → size (mask_shape left word) + 1 ≤ 2 ^ suc left
unfolding mask_shape size
size_most zero word = go (eqb word 0)
  where
    go : (z : Bool) → size (cond z (leaf White) (leaf Black)) + 1 ≤ 2 ^ 1
    go true = omega arith
    go false = omega arith
size_most (suc n) word = go (eqb word 0) (eqb word (all_ones (2 ^ suc n))) (size_most n (word % 2 ^ 2 ^ n)) (size_most n (word / 2 ^ 2 ^ n))
  where
    go : (z o : Bool) → size (mask_shape n (word % 2 ^ 2 ^ n)) + 1 ≤ 2 ^ suc n → size (mask_shape n (word / 2 ^ 2 ^ n)) + 1 ≤ 2 ^ suc n →
        size (cond z (leaf White) (cond o (leaf Black) (halved (mask_shape n (word % 2 ^ 2 ^ n)) (mask_shape n (word / 2 ^ 2 ^ n))))) + 1 ≤ 2 ^ suc (suc n)
    go true o a b = omega (arith, pow-suc 2 (suc n), pow_pos (suc n))
    go false true a b = omega (arith, pow-suc 2 (suc n), pow_pos (suc n))
    go false false a b = omega (arith, pow-suc 2 (suc n))

-- ---- a word and its halves
low_digits : (n word : ℕ) → word % 2 ^ 2 ^ n < 2 ^ 2 ^ n
low_digits n word = mod-lt word (pow_pos (2 ^ n))

high_digits : (n word : ℕ) → word < 2 ^ 2 ^ suc n → word / 2 ^ 2 ^ n < 2 ^ 2 ^ n
high_digits n word h =
    let e : 2 ^ suc n ≡ 2 ^ n + 2 ^ n = omega (arith, pow-suc 2 n) in
    let f : 2 ^ 2 ^ suc n ≡ 2 ^ 2 ^ n * 2 ^ 2 ^ n = ap (λ (k : ℕ). 2 ^ k) e ∙ pow-add 2 (2 ^ n) (2 ^ n) in
    (div-lt_iff_lt-mul {k = 2 ^ 2 ^ n} (pow_pos (2 ^ n))).1 (subst (λ (k : ℕ). word < k) f h)

mixed_shape : (n word : ℕ) → (word ≡ 0 → ⊥) → (word ≡ all_ones (2 ^ suc n) → ⊥) →
    mask_shape (suc n) word ≡ halved (mask_shape n (word % 2 ^ 2 ^ n)) (mask_shape n (word / 2 ^ 2 ^ n))
unfolding mask_shape
mixed_shape n word k l = rw (ne_eqb word 0 k, ne_eqb word (all_ones (2 ^ suc n)) l)

module _ {word left at : ℕ} (job : TextJob word left at) where
  pub one_fits : at + 1 < end_limit
  one_fits = omega (arith, job.place.fits, pow-suc 2 left, pow_pos left)

  pub white_text : word ≡ 0 → (out : List ℕ) {out' : List ℕ} → out' ≡ noted out at 87 → WrittenText word left out at (at + 1) out'
  unfolding size symbols laid leaf_symbol
  white_text e out f =
      let s = white_word left word e in
      record { ends = rw s; room = f ∙ laid_noted out at (leaf White) ∙ ap (λ (x : Shape). sets out at (symbols x)) (sym s) }

  module _ (some : word ≡ 0 → ⊥) {ones : ℕ} (o : ones ≡ all_ones (2 ^ left)) where
    pub black_text : word ≡ ones → (out : List ℕ) {out' : List ℕ} → out' ≡ noted out at 66 → WrittenText word left out at (at + 1) out'
    unfolding size symbols laid leaf_symbol
    black_text e out f =
        let s = black_word left word some (e ∙ o) in
        record { ends = rw s; room = f ∙ laid_noted out at (leaf Black) ∙ ap (λ (x : Shape). sets out at (symbols x)) (sym s) }

    module _ (fewer : word ≡ ones → ⊥) where
      not_ones : word ≡ all_ones (2 ^ left) → ⊥
      not_ones e = fewer (e ∙ sym o)

      pub left_some : 1 ≤ left
      left_some = go left refl
        where
          go : (n : ℕ) → left ≡ n → 1 ≤ left
          go (suc n) e = omega arith
          go zero e =
              absurd (not_ones (omega (arith, ap (λ (k : ℕ). 2 ^ 2 ^ k) e, ap (λ (k : ℕ). all_ones (2 ^ k)) e, job.digits, some)))

      abbrev n : ℕ
      n = left - 1

      left_suc : left ≡ suc n
      left_suc = omega (arith, left_some)

      half_few : 2 ^ suc left ≡ 2 ^ suc n + 2 ^ suc n
      half_few = ap (λ (k : ℕ). 2 ^ suc k) left_suc ∙ omega (arith, pow-suc 2 (suc n))

      pub place_few : n < word_levels
      place_few = omega (arith, job.few, left_some)

      pub mixed_is : mask_shape left word ≡ halved (mask_shape n (word % 2 ^ 2 ^ n)) (mask_shape n (word / 2 ^ 2 ^ n))
      mixed_is =
          ap (λ (k : ℕ). mask_shape k word) left_suc
          ∙ mixed_shape n word some (λ e. not_ones (e ∙ ap (λ (k : ℕ). all_ones (2 ^ k)) (sym left_suc)))

      module _ {lo : ℕ} (l : lo ≡ word % 2 ^ 2 ^ n) where
        pub low_text : TextJob lo n (at + 1)
        low_text =
            record {
              few = omega (arith, place_few);
              digits = subst (λ (k : ℕ). k < 2 ^ 2 ^ n) (sym l) (low_digits n word);
              place = record { fits = omega (arith, job.place.fits, half_few, pow-suc 2 n, pow_pos n) };
            }

        module _ {hi : ℕ} (h : hi ≡ word / 2 ^ 2 ^ n) {out₁ out₂ : List ℕ} {middle : ℕ} (w : WrittenText lo n out₁ (at + 1) middle out₂) where
          pub high_text : TextJob hi n middle
          high_text =
              record {
                few = omega (arith, place_few);
                digits = subst (λ (k : ℕ). k < 2 ^ 2 ^ n) (sym h) (high_digits n word (subst (λ (k : ℕ). word < 2 ^ 2 ^ k) left_suc job.digits));
                place = record { fits = omega (arith, job.place.fits, half_few, w.ends, size_most n lo) };
              }

          halves_are : mask_shape left word ≡ halved (mask_shape n lo) (mask_shape n hi)
          halves_are = mixed_is ∙ sym (ap₂ (λ (x y : ℕ). halved (mask_shape n x) (mask_shape n y)) l h)

          pub both_texts : (out : List ℕ) → out₁ ≡ noted out at open_symbol → {end : ℕ} {out₃ : List ℕ} → WrittenText hi n out₂ middle end out₃ →
              WrittenText word left out at end out₃
          unfolding size symbols
          both_texts out f x =
              let a : Shape = mask_shape n lo in
              let b : Shape = mask_shape n hi in
              let j : at + 1 ≡ suc at = omega arith in
              let d : middle ≡ suc at + length (symbols a) = omega (arith, w.ends, length_symbols a) in
              let o : noted out at open_symbol ≡ set out at open_symbol = sym (noted_some out at open_symbol (λ z. omega arith)) in
              record {
                ends = x.ends ∙ omega (arith, w.ends) ∙ sym (ap (λ (x : Shape). at + size x) halves_are);
                room = x.room ∙ rw (w.room, f, o, d, j) (sets_append (symbols a) (symbols b) (set out at open_symbol) (suc at))
                    ∙ sym (ap (λ (x : Shape). sets out at (symbols x)) halves_are);
              }

-- ---- a word laid
module _ {word left at : ℕ} (job : TextJob word left at) where
  pub white_laid : word ≡ 0 → (out : List ℕ) → LaidShape (mask_shape left word) out at ((at + 1) * 256 + 87) out
  unfolding size leaf_symbol laid
  white_laid e out = rw (white_word left word e) (record { piece = refl; room = refl })

  pub end_fits : {out out' : List ℕ} {end : ℕ} → WrittenText word left out at end out' → end < end_limit
  end_fits w = omega (arith, job.place.fits, w.ends, size_most left word)

  module _ (some : word ≡ 0 → ⊥) {ones : ℕ} (o : ones ≡ all_ones (2 ^ left)) where
    pub black_laid : word ≡ ones → (out : List ℕ) → LaidShape (mask_shape left word) out at ((at + 1) * 256 + 66) out
    unfolding size leaf_symbol laid
    black_laid e out = rw (black_word left word some (e ∙ o)) (record { piece = refl; room = refl })

    pub text_laid : (word ≡ ones → ⊥) → {end : ℕ} {out out' : List ℕ} → WrittenText word left out at end out' →
        LaidShape (mask_shape left word) out at (end * 256) out'
    unfolding size leaf_symbol laid
    text_laid fewer {end} {out} {out'} w =
        let m = mixed_is job some o fewer in
        let lo : Shape = mask_shape (left - 1) (word % 2 ^ 2 ^ (left - 1)) in
        let hi : Shape = mask_shape (left - 1) (word / 2 ^ 2 ^ (left - 1)) in
        let g : end ≡ at + size (halved lo hi) = w.ends ∙ ap (λ (x : Shape). at + size x) m in
        let s : LaidShape (halved lo hi) out at (end * 256) out' =
        record { piece = omega (arith, g); room = w.room ∙ ap (λ (x : Shape). sets out at (symbols x)) m } in
        subst (λ (x : Shape). LaidShape x out at (end * 256) out') (sym m) s

-- ---- where there is room for the longest text
module _ {word left at : ℕ} {out : List ℕ} (job : RoomyText word left out at) where
  abbrev text : TextJob word left at
  text = job.text

  pub white_stored : word ≡ 0 → WrittenText word left out at (at + 1) (set out at 87)
  white_stored e = white_text text e out (noted_some out at 87 (λ z. omega arith))

  module _ (some : word ≡ 0 → ⊥) {ones : ℕ} (o : ones ≡ all_ones (2 ^ left)) where
    pub black_stored : word ≡ ones → WrittenText word left out at (at + 1) (set out at 66)
    black_stored e = black_text text some o e out (noted_some out at 66 (λ z. omega arith))

    module _ (fewer : word ≡ ones → ⊥) {lo hi : ℕ} (l : lo ≡ word % 2 ^ 2 ^ (left - 1)) (h : hi ≡ word / 2 ^ 2 ^ (left - 1)) where
      pub low_roomy : RoomyText lo (left - 1) (set out at open_symbol) (at + 1)
      low_roomy =
          record {
            text = low_text text some o fewer l;
            roomy = omega (arith, job.roomy, half_few text some o fewer, pow_pos (left - 1), pow-suc 2 (left - 1), length-set out at open_symbol);
          }

      module _ {middle : ℕ} {out₂ : List ℕ} (w : WrittenText lo (left - 1) (set out at open_symbol) (at + 1) middle out₂) where
        pub high_roomy : RoomyText hi (left - 1) out₂ middle
        high_roomy =
            record {
              text = high_text text some o fewer l h w;
              roomy = omega (
                arith,
                job.roomy,
                half_few text some o fewer,
                w.ends,
                size_most (left - 1) lo,
                ap length w.room,
                length-sets (set out at open_symbol) (at + 1) (symbols (mask_shape (left - 1) lo)),
                length-set out at open_symbol,
              );
            }

        pub both_stored : {end : ℕ} {out₃ : List ℕ} → WrittenText hi (left - 1) out₂ middle end out₃ → WrittenText word left out at end out₃
        both_stored x = both_texts text some o fewer l h w out (noted_some out at open_symbol (λ z. omega arith)) x

-- ---- where there is none
none_stored : (vs l : List ℕ) (i : ℕ) → length l ≤ i → sets l i vs ≡ l
none_stored [] l i h = refl
none_stored (v ∷ vs) l i h = none_stored vs (set l i v) (suc i) (omega (arith, length-set l i v)) ∙ set_out l i v h

module _ {word left at : ℕ} (job : TextJob word left at) where
  pub none_written : (six : left ≡ 6) {out : List ℕ} → length out ≤ at → {r : ℕ} → r ≡ size (mask_shape 6 word) → WrittenText word left out at (at + r) out
  none_written six {out} h e =
      record {
        ends = ap (λ (k : ℕ). at + k) (e ∙ ap (λ (k : ℕ). size (mask_shape k word)) (sym six));
        room = sym (none_stored (symbols (mask_shape left word)) out at h);
      }

  pub roomy_text : (six : left ≡ 6) {out : List ℕ} → at ≤ length out → 128 ≤ length out - at → RoomyText word 6 out at
  roomy_text six h k = record { text = subst (λ (n : ℕ). TextJob word n at) six job; roomy = omega arith }

  pub roomy_written : (six : left ≡ 6) {out out' : List ℕ} {end : ℕ} → WrittenText word 6 out at end out' → WrittenText word left out at end out'
  roomy_written six {out} {out'} {end} w = subst (λ (n : ℕ). WrittenText word n out at end out') (sym six) w

  pub size_fits : (six : left ≡ 6) {r : ℕ} → r ≡ size (mask_shape 6 word) → at + r < 2 ^ 64
  size_fits six e = omega (arith, job.place.fits, size_most 6 word, ap (λ (k : ℕ). 2 ^ suc k) six)

-- ---- how many symbols
one_mixed : (m : ℕ) → mixed_mask 1 m ≡ bit_xor m (m / 2)
unfolding mixed_mask
one_mixed m = or_zero_l (bit_xor m (m / 2))

pub size_counted : (m : ℕ) → m < 2 ^ 64 →
    1 + 2 * (ones (bit_and (mixed_mask 1 m) 0x5555555555555555) + ones (bit_and (mixed_mask 2 m) 0x1111111111111111)
    + ones (bit_and (mixed_mask 3 m) 0x0101010101010101) + ones (bit_and (mixed_mask 4 m) 0x0001000100010001)
    + ones (bit_and (mixed_mask 5 m) 0x0000000100000001) + ones (bit_and (mixed_mask 6 m) 1)) ≡ size (mask_shape 6 m)
unfolding mask_size starts_mask mask_of sum
size_counted m h =
    let e : 1 + 2 * (0 + ones (bit_and (mixed_mask 1 m) 0x5555555555555555) + ones (bit_and (mixed_mask 2 m) 0x1111111111111111)
    + ones (bit_and (mixed_mask 3 m) 0x0101010101010101) + ones (bit_and (mixed_mask 4 m) 0x0001000100010001)
    + ones (bit_and (mixed_mask 5 m) 0x0000000100000001) + ones (bit_and (mixed_mask 6 m) 1)) ≡ size (mask_shape 6 m) = sym (mask_size_lem 6 m h) in
    omega (arith, e)

module _ (m : ℕ) {two four eight sixteen thirty_two all : ℕ} (a : two ≡ bit_xor m (m / 2)) (b : four ≡ bit_or (bit_or two (two / 4)) (bit_xor m (m / 4)))
    (c : eight ≡ bit_or (bit_or four (four / 16)) (bit_xor m (m / 16))) (d : sixteen ≡ bit_or (bit_or eight (eight / 256)) (bit_xor m (m / 256)))
    (e : thirty_two ≡ bit_or (bit_or sixteen (sixteen / 65536)) (bit_xor m (m / 65536)))
    (f : all ≡ bit_or (bit_or thirty_two (thirty_two / 4294967296)) (bit_xor m (m / 4294967296))) where
  mixed_four : four ≡ mixed_mask 2 m
  unfolding mixed_mask
  mixed_four = b ∙ ap (λ (x : ℕ). bit_or (bit_or x (x / 4)) (bit_xor m (m / 4))) (a ∙ sym (one_mixed m))

  mixed_eight : eight ≡ mixed_mask 3 m
  unfolding mixed_mask
  mixed_eight = c ∙ ap (λ (x : ℕ). bit_or (bit_or x (x / 16)) (bit_xor m (m / 16))) mixed_four

  mixed_sixteen : sixteen ≡ mixed_mask 4 m
  unfolding mixed_mask
  mixed_sixteen = d ∙ ap (λ (x : ℕ). bit_or (bit_or x (x / 256)) (bit_xor m (m / 256))) mixed_eight

  mixed_half : thirty_two ≡ mixed_mask 5 m
  unfolding mixed_mask
  mixed_half = e ∙ ap (λ (x : ℕ). bit_or (bit_or x (x / 65536)) (bit_xor m (m / 65536))) mixed_sixteen

  mixed_all : all ≡ mixed_mask 6 m
  unfolding mixed_mask
  mixed_all = f ∙ ap (λ (x : ℕ). bit_or (bit_or x (x / 4294967296)) (bit_xor m (m / 4294967296))) mixed_half

  pub size_is : m < 2 ^ 64 → {p q r s t u : ℕ} → p ≡ ones (bit_and two 0x5555555555555555) → q ≡ ones (bit_and four 0x1111111111111111) →
      r ≡ ones (bit_and eight 0x0101010101010101) → s ≡ ones (bit_and sixteen 0x0001000100010001) → t ≡ ones (bit_and thirty_two 0x0000000100000001) →
      u ≡ ones (bit_and all 1) → 1 + 2 * (p + q + r + s + t + u) ≡ size (mask_shape 6 m)
  size_is h g i j k l n =
      rw (
        g ∙ ap (λ (x : ℕ). ones (bit_and x 0x5555555555555555)) (a ∙ sym (one_mixed m)),
        i ∙ ap (λ (x : ℕ). ones (bit_and x 0x1111111111111111)) mixed_four,
        j ∙ ap (λ (x : ℕ). ones (bit_and x 0x0101010101010101)) mixed_eight,
        k ∙ ap (λ (x : ℕ). ones (bit_and x 0x0001000100010001)) mixed_sixteen,
        l ∙ ap (λ (x : ℕ). ones (bit_and x 0x0000000100000001)) mixed_half,
        n ∙ ap (λ (x : ℕ). ones (bit_and x 1)) mixed_all,
      )
      (size_counted m h)
