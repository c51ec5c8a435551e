-- Rule 7.1: numbers in bytes, the lowest byte first, and with what a file begins; past the end of the bytes stands 0.
use Rattle.std.specs.Prelude.{ℕ, ◌+◌, ◌*◌, ◌-◌, ◌/◌, ◌%◌, ◌^◌, Bool, cond, ◌&&◌, List, [], ◌∷◌, ltb, leb, eqb, length, get_or, ℤ, pos, ◌-ℤ◌}
use Rattle.lemmas.specs.Sums.{every}
use Rattle.lemmas.specs.Grid.{listed}
use Rattle.universe.specs.declared.Universe.{Universe}
use Rattle.universe.specs.Universe.{equal_bits}
use Rattle.csg.specs.Ball.{most_places, ball_length}

-- an unsigned number at a place: its lower half comes first
abbrev pub u16_at : List ℕ → ℕ → ℕ
u16_at bytes at = get_or bytes at 0 + 256 * get_or bytes (at + 1) 0

abbrev pub u32_at : List ℕ → ℕ → ℕ
u32_at bytes at = u16_at bytes at + 65_536 * u16_at bytes (at + 2)

abbrev pub u64_at : List ℕ → ℕ → ℕ
u64_at bytes at = u32_at bytes at + 4_294_967_296 * u32_at bytes (at + 4)

-- so many bits as a whole number: two's complement
unfoldable pub from_bits : ℕ → ℕ → ℤ
from_bits width n = cond (ltb n (2 ^ (width - 1))) (pos n) (pos n -ℤ pos (2 ^ width))

-- the bytes of a number i64, and of a word u16; and n of them, one after the other
abbrev pub number_bytes : ℕ
number_bytes = 8

abbrev pub word_bytes : ℕ
word_bytes = 2

abbrev pub i64s_at : List ℕ → ℕ → ℕ → List ℤ
i64s_at bytes at n = listed n (λ i. from_bits 64 (u64_at bytes (at + number_bytes * i)))

abbrev pub u16s_at : List ℕ → ℕ → ℕ → List ℕ
u16s_at bytes at n = listed n (λ i. u16_at bytes (at + word_bytes * i))

-- rule 7.6: the bytes of a ball's number; those of balls one after the other, of which the last of each is its radius,
-- unsigned; and n balls
abbrev pub short_bytes : ℕ
short_bytes = 2

unfoldable pub ball_number : List ℕ → ℕ → ℕ → ℤ
ball_number bytes at i =
    let bits = u16_at bytes (at + short_bytes * i) in
    cond (eqb (i % ball_length) most_places) (pos bits) (from_bits 16 bits)

abbrev pub balls_at : List ℕ → ℕ → ℕ → List ℤ
balls_at bytes at n = listed (ball_length * n) (ball_number bytes at)

-- the bytes of an unsigned number below 2^16, and of one below 2^32
abbrev pub u16_bytes : ℕ → List ℕ
u16_bytes n = n % 256 ∷ n / 256 % 256 ∷ []

abbrev pub u32_bytes : ℕ → List ℕ
u32_bytes n = n % 256 ∷ n / 256 % 256 ∷ n / 65_536 % 256 ∷ n / 16_777_216 % 256 ∷ []

-- rules 7.2 and 7.3: a file begins with the three bytes of its mark; then comes its version
abbrev pub mark_of : ℕ → ℕ → ℕ → List ℕ
mark_of a b c = a ∷ b ∷ c ∷ []

abbrev pub version_of : List ℕ → ℕ
version_of bytes = u16_at bytes 3

-- and then axes, bits and frame bits; rule 7.5: a file of version 1 has no frame bits, and each axis has its bits
abbrev pub universe_said : List ℕ → Universe
universe_said bytes =
    cond (eqb (version_of bytes) 1) (equal_bits (get_or bytes 5 0) (get_or bytes 6 0))
    (record { axes = get_or bytes 5 0; bits = get_or bytes 6 0; frame_bits = get_or bytes 7 0 })

-- whether bytes are as long as a header of so many bytes, and begin with its mark
unfoldable pub has_header : List ℕ → ℕ → List ℕ → Bool
has_header bytes header mark =
    leb header (length bytes) && every (length mark) (λ i. eqb (get_or bytes i 0) (get_or mark i 0))
