-- Laws of the words of a line: written place by place, and what their line is.
use mathlib.Core.Path.{◌≡◌, refl, sym, ◌∙◌}
use mathlib.Core.List.{List}
use Prim.Native.Nat.{ℕ, ◌+◌, ◌≤◌, ◌<◌}
use native.Mathlib.Omega.{arith}
use lib.ListN.{set, replicate, length-set}
use lib.Seq.{get_or-set_other}
use Rattle.maxplus.specs.Tables.{Vec}
use Rattle.maxplus.specs.Line.{at, line}
use Rattle.maxplus.proofs.LineLaws.{line_ext, at_line}
use Rattle.words.specs.Words.{entry, Close}
use Rattle.tables.specs.Held.{meant_v, HoldsV}
use Rattle.tables.proofs.Loops.{blank_word, Filled, filled_more}
use Rattle.tables.specs.Lines.{line_of, Sized, WordsOf, Carries}

-- ---- written place by place
abbrev pub blank : List ℕ
blank = replicate 6 0

pub sized_none : (n : ℕ) → Sized n blank
sized_none n = record { size = refl; past = λ j h. blank_word j }

pub sized_set : {n : ℕ} (w : List ℕ) (i v : ℕ) → i < n → Sized n w → Sized n (set w i v)
sized_set w i v h s = record {
  size = simp length-set s.size;
  past = λ j k. get_or-set_other w i j v 0 (λ e. omega arith) ∙ s.past j k;
}

pub written_none : (c : ℕ) (x : Vec) → WordsOf 0 c x blank
written_none c x = record {
  sized = sized_none 0;
  is = record { at = λ j h. let e : ⊥ = omega arith in absurd e };
  close = record { at = λ j h. let e : ⊥ = omega arith in absurd e };
}

pub written_more : {c : ℕ} {x : Vec} {i : ℕ} {w : List ℕ} (v : ℕ) → i < 6 → WordsOf i c x w → entry v ≡ x i → Close c v →
    WordsOf (i + 1) c x (set w i v)
unfolding meant_v
written_more {c} {x} {i} {w} v h r e k = record {
  sized = sized_set w i v (omega arith) (record { size = r.sized.size; past = λ j k. r.sized.past j (omega arith) });
  is = record { at = λ j l. (all.done j l).0 };
  close = record { at = λ j l. (all.done j l).1 };
}
  where
    all : Filled (λ j v. (entry v ≡ x j) × Close c v) 0 (set w i v) (i + 1)
    all = filled_more _ 0 w i v h (record { size = r.sized.size; done = λ j l. (unfold meant_v in r.is.at j l, r.close.at j l) }) (e, k)

-- all n are written
pub written_all : {x : Vec} {i n c : ℕ} {w : List ℕ} → i ≤ n → n ≤ i → WordsOf i c x w → Carries n c x (record { count = n; at = w })
written_all {x} {i} {n} {c} {w} h k r = let e : i ≡ n = omega arith in record { count = refl; words = rw e at r }

-- ---- their line
pub line_at : (n : ℕ) (w : List ℕ) (j : ℕ) → j < n → at n (line_of n w) j ≡ meant_v w j
unfolding line_of
line_at n w j h = at_line n (meant_v w) j h

pub line_same : {n : ℕ} {x y : Vec} → ((j : ℕ) → j < n → x j ≡ y j) → line n x ≡ line n y
line_same {n} {x} {y} h = line_ext n (line n x) (line n y) (λ j k. at_line n x j k ∙ h j k ∙ sym (at_line n y j k))

pub written_line : {n : ℕ} {x : Vec} {w : List ℕ} → HoldsV n x w → line_of n w ≡ line n x
unfolding line_of
written_line r = line_same r.at
