-- Words picked by the places in use, one place more at a time; and what is then known of vectors and tables.
use mathlib.Core.Path.{◌≡◌, ap, ap₂, sym, ◌∙◌}
use mathlib.Core.Bool.{Bool}
use mathlib.Core.List.{List, []}
use Prim.Native.Nat.{ℕ, ◌+◌, ◌≤◌, ◌<◌}
use native.Mathlib.Omega.{arith}
use lib.ListN.{get_or, set, replicate}
use Rattle.maxplus.specs.Tables.{Vec}
use Rattle.maxplus.specs.Packing.{rank, place}
use Rattle.maxplus.proofs.PackingLaws.{placed}
use Rattle.words.specs.Words.{entry}
use Rattle.tables.specs.Held.{cell, meant_v}
use Rattle.tables.specs.Lines.{Sized, WordsOf}
use Rattle.tables.proofs.Loops.{Filled, filled_none, filled_more}
use Rattle.tables.proofs.LineLaws.{sized_none, sized_set}
use Rattle.spares.specs.declared.Places.{Places}
use Rattle.spares.specs.Using.{PlacesOf, Picked, PickedTables}
use Rattle.spares.proofs.PlaceLaws.{own_place}

module _ (p : Places) (row : List ℕ) where
  -- the first k places are written, and 0 stands past them all
  pub record Picking (r : List ℕ) (k : ℕ) : Type 0 where
    pub sized : Sized p.count r
    pub written : Filled (λ k v. v ≡ get_or row (get_or p.at k 0) 0) 0 r k

  pub picking_none : Picking (replicate 6 0) 0
  picking_none = record { sized = sized_none p.count; written = filled_none _ 0 0 }

  pub picking_more : {r : List ℕ} {k : ℕ} (i : ℕ) → k < p.count → k < 6 → Picking r k → i ≡ get_or p.at k 0 →
      Picking (set r k (get_or row i 0)) (k + 1)
  picking_more {r} {k} i h l f e = record {
    sized = sized_set r k _ h f.sized;
    written = filled_more _ 0 r k _ l f.written (ap (λ i. get_or row i 0) e);
  }

  pub picking_all : {r : List ℕ} {k : ℕ} → p.count ≤ k → Picking r k → Picked p row r
  picking_all h f = record { sized = f.sized; at = λ l q. f.written.done l (omega arith) }

-- ---- what is picked by the places of those of n triggers that pass the test s
module _ {s : ℕ → Bool} {n : ℕ} {p : Places} (h : PlacesOf s n p) where
  pub picked_at : {row r : List ℕ} → Picked p row r → (k : ℕ) → k < rank s n → get_or r k 0 ≡ get_or row (place s n k) 0
  picked_at {row} q k i = q.at k (rw h.count_is i) ∙ ap (λ j. get_or row j 0) (h.at_are k i)

  -- of a vector's words: the words of the vector at the places in use
  pub picked_words : {c : ℕ} {x : Vec} {row r : List ℕ} → WordsOf n c x row → Picked p row r → WordsOf (rank s n) c (λ k. x (place s n k)) r
  unfolding meant_v
  picked_words w q = record {
    sized = rw h.count_is at q.sized;
    is = record { at = λ k i. ap entry (picked_at q k i) ∙ w.is.at (place s n k) (placed s n k i).below };
    close = record { at = λ k i. rw (picked_at q k i) (w.close.at (place s n k) (placed s n k i).below) };
  }

  -- of tables: they stay where no trigger is spare; otherwise columns are picked, and before them the order table's rows
  module _ {m : ℕ} {order lag : List (List ℕ)} where
    pub tables_stay : p.spares ≡ 0 → PickedTables s n m order order lag lag
    tables_stay e = record {
      lags = λ i k _ q. ap (cell lag i) (sym (own_place h e k q));
      orders = λ k l q r. ap₂ (cell order) (sym (own_place h e k q)) (sym (own_place h e l r));
    }

    pub tables_picked : (rows : List (List ℕ)) {orders lags : List (List ℕ)} → ((i : ℕ) → i < m → Picked p (get_or lag i []) (get_or lags i [])) →
        ((k : ℕ) → k < p.count → get_or rows k [] ≡ get_or order (get_or p.at k 0) []) →
        ((k : ℕ) → k < p.count → Picked p (get_or rows k []) (get_or orders k [])) → PickedTables s n m order orders lag lags
    tables_picked rows fl fr fo = record {
      lags = λ i k b q. picked_at (fl i b) k q;
      orders = λ k l q r.
          let b : k < p.count = rw h.count_is q in
          picked_at (fo k b) l r ∙ ap (λ row. get_or row (place s n l) 0) (fr k b ∙ ap (λ i. get_or order i []) (h.at_are k q));
    }
