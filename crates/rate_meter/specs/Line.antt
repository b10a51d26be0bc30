-- The line of points by least squares, and the rate that it says (profile; the method is the usual one, with whole numbers).
-- A point has so many bytes and, at them, so many ticks of 27 MHz.
use Rattle.std.specs.Prelude.{◌≡◌, ℕ, ◌+◌, ◌-◌, ◌*◌, ◌/◌, ◌^◌, ◌≤◌, ◌==◌, nat_lt, nat_le, ◌&&◌, Bool, min, List, length, Option, Some, None, if◌then◌else◌}
use Rattle.std.specs.List.{sum_by}
use Rattle.rate_meter.specs.declared.point.Point.{Point}

abbrev pub bytes_of : Point → ℕ
bytes_of p = p.bytes

abbrev pub ticks_of : Point → ℕ
ticks_of p = p.ticks

abbrev pub square_of : Point → ℕ
square_of p = p.bytes * p.bytes

abbrev pub product_of : Point → ℕ
product_of p = p.bytes * p.ticks

-- n Σ b² - (Σ b)²: how far the points lie apart, in bytes
abbrev pub spread_of : List Point → ℕ
spread_of points = length points * sum_by square_of points - sum_by bytes_of points * sum_by bytes_of points

-- n Σ bt - Σ b Σ t: how far ticks go along with bytes
abbrev pub along_of : List Point → ℕ
along_of points = length points * sum_by product_of points - sum_by bytes_of points * sum_by ticks_of points

-- a quotient, rounded to the nearest whole number, and up at a half
abbrev pub rounded : ℕ → ℕ → ℕ
rounded a b = (a + b / 2) / b

-- the largest number of 64 bits
abbrev pub within_64 : ℕ → ℕ
within_64 n = min n 18446744073709551615

-- So many bytes in so many ticks, in bits a second: a second has 27,000,000 ticks, and 27,000,000 * 8 is 216,000,000.
abbrev pub bits_a_second : ℕ → ℕ → ℕ
bits_a_second bytes ticks = within_64 (rounded (216000000 * bytes) ticks)

-- The slope of the line of ticks against bytes is `along_of points / spread_of points` ticks a byte. The rate is what it says in
-- bits a second; none of fewer than two points, and where no time goes by.
abbrev pub rate_of : List Point → Option ℕ
rate_of points = if along_of points == 0 then None else Some (bits_a_second (spread_of points) (along_of points))

-- A line has at most 65,536 points, of 2^33 bytes and 2^41 ticks at most (profile): so the sums and their products are below 2^128.
abbrev pub has_room : List Point → Point → Bool
has_room points p = nat_lt (length points) 65536 && nat_le p.bytes 8589934592 && nat_le p.ticks 2199023255552

-- what is kept of the points
pub record KeepsSums (points : List Point) (count bytes ticks squares products : ℕ) : Type 0 where
  pub count_is : count ≡ length points
  pub bytes_is : bytes ≡ sum_by bytes_of points
  pub ticks_is : ticks ≡ sum_by ticks_of points
  pub squares_is : squares ≡ sum_by square_of points
  pub products_is : products ≡ sum_by product_of points
  pub count_within : count ≤ 65536
  pub bytes_within : bytes ≤ count * 2 ^ 33
  pub ticks_within : ticks ≤ count * 2 ^ 41
  pub squares_within : squares ≤ count * 2 ^ 66
  pub products_within : products ≤ count * 2 ^ 74
