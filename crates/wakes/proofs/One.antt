-- Promises determine: two wait lists of one meaning are called and woken alike. Assumes nothing.
use Prim.Native.Nat.{ℕ}
use Rattle.std.specs.Prelude.{Option, Some, None}
use Rattle.arena.specs.declared.WaiterId.{WaiterId}
use mathlib.Core.Path.{◌≡◌, refl, sym, ap, ◌∙◌}
use mathlib.Core.List.{List, map}
use lib.ListN.{length, drop}
use Rattle.arena.specs.declared.Waiter.TheVariants.{Called}
use Rattle.waitlist.specs.declared.WaitList.{WaitList}
use Rattle.waitlist.specs.View.{waiter_id, held, renew, line, along, token_of, first_of}
use Rattle.waitlist.proofs.Laws.{map_same}
use Rattle.waitlist.proofs.Segs.{same_id, no_id}
use Rattle.waitlist.proofs.One.{Same}
use native.Mathlib.Decide.{ℕ_discrete}
use Rattle.wakes.proofs.Steps.{tokens_count}
use Rattle.wakes.specs.declared.CalledOut.{CalledOut}
use Rattle.wakes.specs.declared.tokens.Wakes.{Wakes}
use Rattle.wakes.specs.Tokens.{tokens_of}
use Rattle.wakes.specs.Calls.{CallsFirst, WakesAll}

module _ (v w : WaitList) (s : Same v w) where
  pub call_one : (r t : CalledOut) → CallsFirst v r → CallsFirst w t → (r.who ≡ t.who) × (r.held ≡ t.held) × Same r.list t.list
  call_one r t p q = (
    who,
    by r.who refl,
    record {
      lines = p.line ∙ (ap (drop 1) s.lines ∙ sym q.line);
      holds = holds r.who refl;
      counts = p.count ∙ (s.counts ∙ sym q.count);
      orders = p.order ∙ (s.orders ∙ sym q.order);
    },
  )
    where
      who : r.who ≡ t.who
      who = p.who ∙ (ap (λ (l : List ℕ). first_of l None) s.lines ∙ sym q.who)

      by : (o : Option WaiterId) → r.who ≡ o → r.held ≡ t.held
      by None e = p.nobody e ∙ sym (q.nobody (sym who ∙ e))
      by (Some id) e = p.was id.0.0 e ∙ (s.holds id.0.0 ∙ sym (q.was id.0.0 (sym who ∙ e)))

      holds : (o : Option WaiterId) → r.who ≡ o → (k : ℕ) → held r.list k ≡ held t.list k
      holds None e k =
          p.there k (λ z. no_id k (sym e ∙ z)) ∙ (s.holds k ∙ sym (q.there k (λ z. no_id k (sym e ∙ (who ∙ z)))))
      holds (Some id) e k =
          elim (ℕ_discrete k id.0.0) [
            | yes h ↦
                let mine : r.who ≡ Some (waiter_id k) = e ∙ ap (λ (i : ℕ). Some (waiter_id i)) (sym h) in
                p.here k mine ∙ (ap (renew Called) (s.holds k) ∙ sym (q.here k (sym who ∙ mine)))
            | no h ↦
                p.there k (λ z. h (same_id k id.0.0 (sym z ∙ e)))
                ∙ (s.holds k ∙ sym (q.there k (λ z. h (same_id k id.0.0 (sym z ∙ (sym who ∙ e))))))
          ]

  pub wake_one : (r t : Wakes) → WakesAll v r → WakesAll w t → (tokens_of r ≡ tokens_of t) × (r.count ≡ t.count)
  unfolding along
  wake_one r t p q = (
    p.tokens
        ∙ (ap (map (λ (k : ℕ). token_of (held v k))) s.lines
        ∙ (map_same (λ (k : ℕ). token_of (held v k)) (λ (k : ℕ). token_of (held w k)) (line w) (λ k _. ap token_of (s.holds k)) ∙ sym q.tokens)),
    sym (tokens_count r) ∙ (p.number ∙ (ap length s.lines ∙ (sym q.number ∙ tokens_count t))),
  )
