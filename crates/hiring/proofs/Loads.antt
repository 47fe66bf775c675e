-- Every sheet that the generator writes is accepted, and its order can be kept; where 1,133 bytes are lent, it writes one.
use Rattle.std.proofs.Common.{◌≡◌, ℕ, ◌/◌, ◌≤◌, Bool, true, false, cond, ◌&&◌, leb, List, [], length, ℤ, sym, refl, ap, ◌∙◌, subst, arith, take_at, le-leb}
use Rattle.cue.specs.Written.{width}
use Rattle.sheet.specs.Sheet.{got, Sheet, read}
use Rattle.sheet.specs.Cue.{sheet_caps, sheet_lines}
use Rattle.sheet.specs.Meaning.{Timing, Keeps}
use Rattle.sheet.proofs.Demands.{order_kept}
use Rattle.sheet.proofs.Longest.{longest, longest_is}
use Rattle.sheet.proofs.OrderedLaws.{ordered_got}
use Rattle.sheet_text.specs.SheetText.{sheet_text, trimmed}
use Rattle.sheet_text.proofs.ItemOnly.{both}
use Rattle.sheet_text.proofs.ReadBack.{read_back}
use Rattle.planning.specs.Planning.{plan_of, planning}
use Rattle.planning.specs.Demands.{Planned}
use Rattle.hiring.specs.Hiring.{drawn, sheet_from, draws, hired, refused, size?, hiring, hire_answer, hired_in}
use Rattle.hiring.specs.Loads.{front, EveryAccepted, RoomEnough}
use Rattle.hiring.proofs.HireLaws.{size_there, room_there}
use Rattle.hiring.proofs.MadeLaws.{made_sound, made_short, made_keeps}

-- ---- a sheet that was written
module _ (m n s room : ℕ) where
  sizes_there : {text : List ℕ} {state : ℕ} → hiring m n s room ≡ hired text state → (size? m ≡ true) × (size? n ≡ true)
  unfolding hiring
  sizes_there {text} {state} e = both (size? m) (size? n) (go (size? m && size? n) refl e)
    where
      go : (b : Bool) → size? m && size? n ≡ b → cond b (cond (leb (length (sheet_text (sheet_from m n s))) room)
          (hired (sheet_text (sheet_from m n s)) (drawn s (draws m n))) (refused 13)) (refused 12) ≡ hired text state → size? m && size? n ≡ true
      go true p q = p
      go false p q = absurd (let z : ◌≡◌ {A = ℕ} 0 1 = cc in let x : ⊥ = omega arith in x)

  text_there : {text : List ℕ} {state : ℕ} → hiring m n s room ≡ hired text state → text ≡ sheet_text (sheet_from m n s)
  unfolding hiring
  text_there {text} {state} e = go (size? m && size? n) (leb (length (sheet_text (sheet_from m n s))) room) e
    where
      go : (b c : Bool) → cond b (cond c (hired (sheet_text (sheet_from m n s)) (drawn s (draws m n))) (refused 13)) (refused 12) ≡ hired text state →
          text ≡ sheet_text (sheet_from m n s)
      go true true q = let z : sheet_text (sheet_from m n s) ≡ text = cc in sym z
      go true false q = absurd (let z : ◌≡◌ {A = ℕ} 0 1 = cc in let x : ⊥ = omega arith in x)
      go false c q = absurd (let z : ◌≡◌ {A = ℕ} 0 1 = cc in let x : ⊥ = omega arith in x)

-- ---- a sheet that is read, and whose order can be kept, is planned where there is room
planned_there : (sheet : List ℕ) (t : Sheet) → read sheet ≡ got t [] → (X : Timing) × Keeps t X → (space : List ℤ) →
    length (sheet_lines t) ≤ length space / width (sheet_caps t) → Planned (planning sheet space)
unfolding planning
planned_there sheet t e k space h =
    subst (λ g. Planned (plan_of (λ wide. length space / wide) g)) (sym (ordered_got sheet t [] e ((order_kept t).0 k)))
    (rw (le-leb (length (sheet_lines t)) (length space / width (sheet_caps t)) h) tt)

pub every_accepted : EveryAccepted
every_accepted m n s lent text state e =
    let room = length lent in
    let (p, q) = sizes_there m n s room e in
    let (some-m, few-m) = size_there m p in
    let (some-n, few-n) = size_there n q in
    let t = trimmed (sheet_from m n s) in
    let is : front (hiring m n s room) lent ≡ sheet_text (sheet_from m n s) =
    (ap (λ o. front o lent) e ∙ take_at text _ _ refl ∙ text_there m n s room e) in
    let tables : read (front (hiring m n s room) lent) ≡ got t [] =
    (ap read is ∙ read_back (sheet_from m n s) (made_sound m n s some-m few-m some-n few-n)) in
    let kept : (X : Timing) × Keeps t X = (_, made_keeps m n s) in
    record { tables = tables; kept = kept; planned = planned_there _ t tables kept }

pub room_enough : RoomEnough
room_enough m n s room p q h =
    let (some-m, few-m) = size_there m p in
    let (some-n, few-n) = size_there n q in
    let k = made_short m n s some-m few-m some-n few-n in
    room_there m n s room p q (omega (arith, longest_is))

-- no more bytes are written than a good sheet can have
pub hired_few : (m n s room : ℕ) → (hired_in (hire_answer (hiring m n s room))).length ≤ longest
unfolding hiring
hired_few m n s room = go (size? m) refl (size? n) refl (leb (length (sheet_text (sheet_from m n s))) room)
  where
    go : (a : Bool) → size? m ≡ a → (b : Bool) → size? n ≡ b → (c : Bool) →
        (hired_in (hire_answer (cond (a && b) (cond c (hired (sheet_text (sheet_from m n s)) (drawn s (draws m n))) (refused 13)) (refused 12)))).length ≤ longest
    go true p true q true =
        let (some-m, few-m) = size_there m p in
        let (some-n, few-n) = size_there n q in
        made_short m n s some-m few-m some-n few-n
    go true p true q false = omega arith
    go true p false q c = omega arith
    go false p b q c = omega arith
