-- The counts: a loop over the 32 places counts those at which `at` shows an operation that passes a test. Assumes nothing.
use Prim.Native.Nat.{ℕ, zero, suc, ◌+◌, ◌<◌, ◌≤◌}
use mathlib.Core.Path.{◌≡◌, refl, sym, ap, ◌∙◌, subst}
use mathlib.Core.Bool.{Bool, true, false}
use mathlib.Core.Logic.{⊎_elim}
use mathlib.Core.List.Memᴰ
use mathlib.Core.List.{List, [], ◌∷◌, ◌++◌, map, Memᴰ}
use Rattle.std.specs.Prelude.{Option, None, Some, option_map, MatchOption}
use Rattle.std.proofs.Common.{add-zero}
use native.Mathlib.Numerals.{add-one}
use native.Mathlib.Omega.{arith}
use lib.ListN.{length, get_or, length-map}
use mir.Val.{bool_byte}
use Rattle.arena.specs.Lists.{NotIn, NoDup}
use Rattle.arena.proofs.Lists.{mem?, Around, around, widen, narrow, middle, length_middle}
use Rattle.waitlist.specs.View.{waiter_id, held, line, op_of}
use Rattle.waitlist.proofs.Segs.{same_id}
use Rattle.waitlist.proofs.Laws.{line_once, along_length}
use Rattle.live.specs.Bits.{live_of}
use Rattle.model.specs.Table.{Place, vacant, Table, in_place, of, sum}
use Rattle.model.specs.Side as model
use Rattle.tables.proofs.PlaceLaws.{place_vacant}
use Rattle.tables.proofs.Counts as table
use Rattle.side.specs.declared.Side.{Side}
use Rattle.side.specs.declared.Entry.{Entry}
use Rattle.side.specs.Meaning.{Deed, turn_of, number_in, stage_by, deed_by, table_of, deed_of, side_of, place_in, Tests}
use Rattle.side.specs.Sound.{node_of, node_in, node_at}
use Rattle.side.proofs.Kept.{sound_of}
use Rattle.waitlist.proofs.Room.{map_once}
use Rattle.side.proofs.Lists.{mapped, mapped_in}
use Rattle.side.proofs.Laws.{node_waits}
use Rattle.side.proofs.Numbers.{stored, wide_ops, place_holds, live_row, line_place}
use Rattle.side.proofs.Calling.{stander}

-- ---- the loop: total is the count over the first p places, each of which counts at most once
pub record Counting (f : Deed → ℕ) (s : Side) (p total : ℕ) : Type 0 where
  pub so : table.Counting f (side_of s).ops 32 p total
  pub few : total ≤ p

module _ (f : Deed → ℕ) (s : Side) where
  pub counting_none : Counting f s 0 0
  counting_none = record { so = table.counting_none f (side_of s).ops 32 (wide_ops s); few = omega arith }

  module _ (p total : ℕ) (c : Counting f s p total) where
    -- the next place counts where an operation is seen there that passes
    pub counting_more : (says : Entry → Bool → Type 0) → Tests says f → (v : Option Entry) (b : Bool) (x : ℕ) → p < 32
        → option_map deed_of v ≡ in_place (place_in s p) → MatchOption v (b ≡ false) (λ e. says e b) → x ≡ bool_byte b → Counting f s (p + 1) (total + x)
    counting_more says t v b x small e h q =
        record {
          so = table.counting_more f (side_of s).ops 32 p total c.so x small (q ∙ (told v b h ∙ ap (of f) e));
          few = let most = once b in omega (arith, c.few);
        }
      where
        once : (b : Bool) → bool_byte b ≤ 1
        once true = omega arith
        once false = omega arith

        told : (v : Option Entry) (b : Bool) → MatchOption v (b ≡ false) (λ e. says e b) → bool_byte b ≡ of f (option_map deed_of v)
        told None b h = ap bool_byte h
        told (Some e) true h = sym (t e true h)
        told (Some e) false h = sym (t e false h)

    pub counting_done : 32 ≤ p → total ≡ sum f (side_of s).ops
    counting_done h = table.counting_done f (side_of s).ops 32 p total c.so h

-- ---- in_line: as many operations wait as stand in line
module _ (f : Deed → ℕ) (t : Table Deed) (size : ℕ) (wide : length t ≡ size) where
  abbrev counted : ℕ → ℕ
  counted p = of f (in_place (get_or t p (vacant 0)))

  -- over the first n places, just those of a list count
  tally : (n : ℕ) (l : List ℕ) → NoDup l → n ≤ size → ((p : ℕ) → Memᴰ p l → p < n) → ((p : ℕ) → Memᴰ p l → counted p ≡ 1) → ((p : ℕ) → p < n → NotIn p l → counted p ≡ 0)
      → table.Counting f t size n (length l)
  tally zero [] d b small inside outside = table.counting_none f t size wide
  tally zero (x ∷ l) d b small inside outside = let z : x < 0 = small x (Memᴰ.head refl) in absurd (omega arith)
  tally (suc n) l d b small inside outside = ⊎_elim (λ m. there (λ k e h y z. tally n k e (omega arith) h y z) (around n l m) m) (λ m. none (tally n l d (omega arith) (below l small m) inside (λ p q. outside p (omega arith))) m) (mem? n l)
    where
      below : (k : List ℕ) → ((p : ℕ) → Memᴰ p k → p < suc n) → NotIn n k → (p : ℕ) → Memᴰ p k → p < n
      below k h o p m = let q : p < suc n = h p m in let e : p ≡ n → ⊥ = λ e. o (Memᴰ.cast (sym e) m) in omega arith

      more : (k : List ℕ) (x : ℕ) → x ≡ counted n → length k + x ≡ length l → table.Counting f t size n (length k) → table.Counting f t size (suc n) (length l)
      more k x e g c =
          subst (λ (j : ℕ). table.Counting f t size j (length l)) (add-one n)
          (subst (table.Counting f t size (n + 1)) g (table.counting_more f t size n (length k) c x (omega arith) e))

      none : table.Counting f t size n (length l) → NotIn n l → table.Counting f t size (suc n) (length l)
      none c m = more l 0 (sym (outside n (omega arith) m)) (add-zero (length l)) c

      there :
          ((k : List ℕ) → NoDup k → ((p : ℕ) → Memᴰ p k → p < n) → ((p : ℕ) → Memᴰ p k → counted p ≡ 1) → ((p : ℕ) → p < n → NotIn p k → counted p ≡ 0) → table.Counting f t size n (length k)) →
          Around n l →
          Memᴰ n l →
          table.Counting f t size (suc n) (length l)
      there rest r m =
          let k : List ℕ = r.left ++ r.right in
          let o : NotIn n k × NoDup k = middle n r.left r.right (subst NoDup r.whole d) in
          let within : (p : ℕ) → Memᴰ p k → Memᴰ p l = λ p q. subst (Memᴰ p) (sym r.whole) (widen n r.left r.right q) in
          let longer : length k + 1 ≡ length l = omega (arith, ap length r.whole ∙ length_middle n r.left r.right) in
          more k 1 (sym (inside n m)) longer
          (rest k o.1 (below k (λ p q. small p (within p q)) o.0) (λ p q. inside p (within p q))
          (λ p q z. outside p (omega arith) (λ g. z (narrow r.left r.right (λ (e : p ≡ n). omega arith) (subst (Memᴰ p) r.whole g)))))

abbrev pub waits : Deed → ℕ
waits op = model.waits op.stage

module _ (s : Side) where
  abbrev place : ℕ → ℕ
  place k = op_of (held s.waiters k)

  abbrev places : List ℕ
  places = map place (line s.waiters)

  once : NoDup places
  once = map_once place (line s.waiters) (line_once s.waiters) (λ j k m n e. same_id j k (sym (line_place s j m).1 ∙ (ap (node_at (table_of s)) e ∙ (line_place s k n).1)))

  stands : (k : ℕ) → Memᴰ k (line s.waiters) → of waits (in_place (place_in s (place k))) ≡ 1
  stands k m =
      let d = stander s k m in
      ap (λ (j : ℕ). of waits (in_place (place_in s j))) (ap op_of d.holds)
      ∙ (ap (λ (x : Place Deed). of waits (in_place x)) (place_holds s d.place d.live) ∙ ap model.waits d.stage)

  -- whoever waits stands in line
  apart : (p : ℕ) → NotIn p places → of waits (in_place (place_in s p)) ≡ 0
  unfolding side_of
  apart p out = by (get_or (live_of s.places.live) p false) refl
    where
      waiting : (t : ℕ) → get_or (live_of s.places.live) p false ≡ true → stage_by s.waiters (stored s p).mark ≡ model.waiting t → ⊥
      waiting t e q =
          let a = node_waits s.waiters (stored s p).mark t q in
          let node : node_at (table_of s) p ≡ Some (waiter_id a.0) = ap node_in (live_row s p e) ∙ ap node_of a.1 in
          let h = (sound_of s).ties.owned.forth p a.0 node in
          out (Memᴰ.cast (sym (ap op_of h.1)) (mapped_in place a.0 (line s.waiters) ((sound_of s).ties.lined a.0 a.2 t a.3)))

      none : (st : model.Stage) → ((t : ℕ) → st ≡ model.waiting t → ⊥) → model.waits st ≡ 0
      none model.idle h = refl
      none (model.waiting t) h = absurd (h t refl)
      none model.called h = refl
      none model.void h = refl

      by : (b : Bool) → get_or (live_of s.places.live) p false ≡ b → of waits (in_place (place_in s p)) ≡ 0
      by true e = ap (λ (x : Place Deed). of waits (in_place x)) (place_holds s p e) ∙ none (stage_by s.waiters (stored s p).mark) (λ t. waiting t e)
      by false e = ap (λ (x : Place Deed). of waits (in_place x)) (place_vacant turn_of (deed_by s.waiters) (live_of s.places.live) s.ops p e)

  pub line_counted : (n : ℕ) → n ≡ sum waits (side_of s).ops → n ≡ length (side_of s).line
  unfolding side_of
  line_counted n e =
      e
      ∙ (sym (table.counting_done waits (side_of s).ops 32 32 (length places) (tally waits (side_of s).ops 32 (wide_ops s) 32 places once (omega arith)
      (mapped place (λ p. p < 32) (line s.waiters) (λ k m. (line_place s k m).0))
      (mapped place (λ p. of waits (in_place (place_in s p)) ≡ 1) (line s.waiters) stands)
      (λ p b. apart p)) (omega arith))
      ∙ (length-map (line s.waiters) place ∙ sym (along_length (number_in s.ops) s.waiters)))
