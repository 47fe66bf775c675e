-- `reading::read_headed` meets its contract. Assumes nothing.
use Prim.Native.Nat.{ℕ}
use mathlib.Core.Path.{◌≡◌, refl, ap, ap₂, sym, ◌∙◌}
use mathlib.Core.List.{List, [], ◌∷◌}
use lib.ListN.{drop}
use Rattle.std.proofs.lemmas.Result.{err_from_is_err_and}
use Rattle.maxplus.specs.Entry.{E}
use Rattle.sheet.specs.Text.{bytes}
use Rattle.sheet.specs.Sheet.{got, size, kind, Section, section, sections, sizes, panels_line, triggers_line, sized}
use Rattle.sheet.proofs.SectionLaws.{sections_of, headed_refused, headed_sized}
use Rattle.reading.specs.Reading.{answer}
use Rattle.reading.proofs.SectionsRead.{first_refused, later_refused, later_read, none_read}
use Rattle.reading.proofs.WordsLaws.{size_word}
use Rattle.reading.proofs.AnswerLaws.{refused_answer}
use Rattle.reading.proofs.read_headed.Goals as goal

abbrev panels : Section
panels = kind "panels=" size 1 1

abbrev triggers : Section
triggers = kind "triggers=" size 1 1

both : (x : List ℕ) {t u : List (List E)} {y z : List ℕ} → section panels x ≡ got t y → section triggers y ≡ got u z →
    sections sizes x ≡ got (t ∷ u ∷ []) z
both x p q = later_read panels _ x _ _ p _ _ (later_read triggers [] _ _ _ q [] _ (none_read _))

pub returns-in_err-at : goal.returns-in_err-at
unfolding bytes
returns-in_err-at c =
    let p = err_from_is_err_and c.from_residual.result c.from_residual.ensures.1 in
    rw (p.1, p.2) (refused_answer _ (headed_refused c.args.ruled _ _ (first_refused panels _ _ _ c.in_err-at.ensures)))

pub returns-in_err-at-2 : goal.returns-in_err-at-2
unfolding bytes
returns-in_err-at-2 c =
    let p = err_from_is_err_and c.from_residual-in_err-at-2.result c.from_residual-in_err-at-2.ensures.1 in
    rw (p.1, p.2) (refused_answer _ (headed_refused c.args.ruled _ _
    (later_refused panels _ _ _ _ c.in_ok-at.ensures.is _ (first_refused triggers _ _ _ c.in_err-at-2.ensures))))

pub read_sized-requires : goal.read_sized-requires
unfolding bytes
read_sized-requires c =
    let F = c.in_ok-at.ensures in
    let G = c.in_ok-at-2.ensures in
    let all = both _ F.is G.is in
    let m = size_word F.words (sections_of sizes _ all panels_line refl) in
    let n = size_word G.words (sections_of sizes _ all triggers_line refl) in
    (G.within, rw (c.size-panels.ensures ∙ m.0) m.1, rw (c.size-triggers.ensures ∙ n.0) n.1)

pub returns : goal.returns
unfolding bytes
returns c =
    let F = c.in_ok-at.ensures in
    let G = c.in_ok-at-2.ensures in
    let all = both _ F.is G.is in
    let m = size_word F.words (sections_of sizes _ all panels_line refl) in
    let n = size_word G.words (sections_of sizes _ all triggers_line refl) in
    c.read_sized.ensures ∙ ap answer (sym (headed_sized c.args.ruled _ _ _ all ∙
    ap₂ (λ m n. sized c.args.ruled m n (drop c.in_ok-at-2.at c.args.s.now)) (sym (c.size-panels.ensures ∙ m.0)) (sym (c.size-triggers.ensures ∙ n.0))))
