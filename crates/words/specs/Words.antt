-- An entry in an unsigned word: 0 is absent, bias + z is the number z, so the order of words is the order of entries.
use Rattle.std.specs.Prelude.{ℕ, zero, suc, ◌+◌, ◌-◌, ◌≤◌, ◌<◌}
use Rattle.std.proofs.Math.IntN.{sub_ℕ}
use Rattle.maxplus.specs.Whole.{up, dn}
use Rattle.maxplus.specs.Entry.{E, absent, num}

abbrev pub bias : ℕ
bias = 0x100_0000_0000

-- no number that is stored is further from 0
abbrev pub far : ℕ
far = 0x40_0000_0000

-- a number no further from 0 fits a signed word of 32 bits and is not the word of absent
abbrev pub signed_far : ℕ
signed_far = 0x7fff_ffff

-- three numbers no further from 0 than this add up to one within far
abbrev pub third : ℕ
third = 0x15_5555_5555

unfoldable pub word : E → ℕ
word absent = 0
word (num z) = bias + up z - dn z

-- the entry that a word stands for
unfoldable pub entry : ℕ → E
entry zero = absent
entry (suc v) = num (sub_ℕ (suc v) bias)

-- a word of absent, or of a number from −c to c
pub record Close (c v : ℕ) : Type 0 where
  pub high : v ≤ bias + c
  pub low : 0 < v → bias ≤ v + c

abbrev pub Near : ℕ → Type 0
Near v = Close far v
