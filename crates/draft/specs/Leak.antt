-- The leak rates of transport buffers, in bits a second (ISO/IEC 13818-1, 2.4.2.3; EN 300 472; EN 300 743).
use Rattle.std.specs.Prelude.{ℕ, min, max}
use Rattle.probe.specs.declared.codec.Codec.{Codec}
use Rattle.probe.specs.declared.codec.Codec.TheVariants.{Mpeg1Video, Mpeg2Video, Mpeg4Video, Avc, Hevc, Vvc, Jpeg2000, Mpeg1Audio, Mpeg2Audio, AdtsAac, LatmAac, Mpeg4Audio, Aac, Ac3, EnhancedAc3, Ac4, Dts, Teletext, Subtitles}

-- the least of a stream that is coded so
abbrev pub least_leak_of : Codec → ℕ
least_leak_of Mpeg2Video = 18000000
least_leak_of Teletext = 6750000
least_leak_of Subtitles = 192000
least_leak_of Mpeg1Video = 2000000
least_leak_of Mpeg4Video = 2000000
least_leak_of Avc = 2000000
least_leak_of Hevc = 2000000
least_leak_of Vvc = 2000000
least_leak_of Jpeg2000 = 2000000
least_leak_of Mpeg1Audio = 2000000
least_leak_of Mpeg2Audio = 2000000
least_leak_of AdtsAac = 2000000
least_leak_of LatmAac = 2000000
least_leak_of Mpeg4Audio = 2000000
least_leak_of Aac = 2000000
least_leak_of Ac3 = 2000000
least_leak_of EnhancedAc3 = 2000000
least_leak_of Ac4 = 2000000
least_leak_of Dts = 2000000
least_leak_of _ = 1000000

-- What a stream shows of its leak rate by its mean rate and its highest one: the mean where its kind fixes the leak rate, and else the
-- highest, above which no receiver is sent it.
abbrev pub rate_shown : Codec → ℕ → ℕ → ℕ
rate_shown Teletext mean highest = mean
rate_shown Subtitles mean highest = mean
rate_shown Mpeg1Audio mean highest = mean
rate_shown Mpeg2Audio mean highest = mean
rate_shown AdtsAac mean highest = mean
rate_shown LatmAac mean highest = mean
rate_shown Mpeg4Audio mean highest = mean
rate_shown Aac mean highest = mean
rate_shown Ac3 mean highest = mean
rate_shown EnhancedAc3 mean highest = mean
rate_shown Ac4 mean highest = mean
rate_shown Dts mean highest = mean
rate_shown _ mean highest = highest

-- no less than streams of its kind have, and than it shows
abbrev pub leak_said : Codec → ℕ → ℕ → ℕ
leak_said codec mean highest = min (max (rate_shown codec mean highest) (least_leak_of codec)) 100000000
