-- Sizes of shapes: `size` is the length of the expression, it is odd, hence at least 1; and depth bounds the depth of both halves.
use mathlib.Core.Path.{◌≡◌, refl}
use Prim.Native.Nat.{ℕ, suc, ◌%◌, ◌≤◌}
use native.Mathlib.Nat.{le-max_left, le-max_right}
use native.Mathlib.Omega.{arith}
use lib.ListN.{length, length-append}
use Rattle.bintree.specs.declared.Colour.{Colour}
use Rattle.bintree.specs.declared.Colour.TheVariants.{White, Black}
use Rattle.bintree.specs.Shape.{Shape, leaf, halved, open_symbol, symbol_of, symbols, size, depth}

pub length_symbols : (s : Shape) → length (symbols s) ≡ size s
unfolding symbols size
length_symbols (leaf c) = refl
length_symbols (halved a b) =
    let x = length_symbols a in
    let y = length_symbols b in
    let z = length-append (symbols a) (symbols b) in
    omega arith

pub size_odd : (s : Shape) → size s % 2 ≡ 1
unfolding size
size_odd (leaf c) = refl
size_odd (halved a b) =
    let x = size_odd a in
    let y = size_odd b in
    omega arith

pub size_positive : (s : Shape) → 1 ≤ size s
unfolding size
size_positive (leaf c) = omega arith
size_positive (halved a b) = omega arith

-- a halved shape's halves are at least one halving less deep
pub depth_low : (a b : Shape) (n : ℕ) → depth (halved a b) ≤ suc n → depth a ≤ n
unfolding depth
depth_low a b n h = omega (arith, le-max_left (depth a) (depth b))

pub depth_high : (a b : Shape) (n : ℕ) → depth (halved a b) ≤ suc n → depth b ≤ n
unfolding depth
depth_high a b n h = omega (arith, le-max_right (depth a) (depth b))

pub halved_deep : (a b : Shape) → depth (halved a b) ≤ 0 → ⊥
unfolding depth
halved_deep a b h = omega arith

-- no symbol is 0, which stands past an expression's end, and no leaf's symbol is `(`
pub symbol_not_zero : (c : Colour) → symbol_of c ≡ 0 → ⊥
symbol_not_zero Black e = omega arith
symbol_not_zero White e = omega arith

pub symbol_not_open : (c : Colour) → symbol_of c ≡ open_symbol → ⊥
symbol_not_open Black e = omega arith
symbol_not_open White e = omega arith

-- the two colours have two symbols
pub symbol_injective : (c d : Colour) → symbol_of c ≡ symbol_of d → c ≡ d
symbol_injective Black Black e = refl
symbol_injective Black White e = absurd (omega arith)
symbol_injective White Black e = absurd (omega arith)
symbol_injective White White e = refl
