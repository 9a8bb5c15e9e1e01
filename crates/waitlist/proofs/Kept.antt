-- WHAT EVERY WAIT LIST KEEPS, read from its ghost field. The field says only that it is so; the line is read off the links, and of each fact
-- about it there is one proof at most.
-- Assumes nothing.
use Prim.Native.Nat.{ℕ, ◌<◌}
use Rattle.std.specs.Prelude.{Option, Some, None}
use mathlib.Core.Path.{◌≡◌, sym, ap, ◌∙◌, subst}
use mathlib.Core.Logic.{∥∥₁_elim}
use mathlib.Core.HLevel.{×_prop, Unit-prop}
use mathlib.Core.List.{List, [], ◌∷◌, Memᴰ}
use Rattle.std.proofs.Props.{props}
use Rattle.arena.specs.declared.WaiterId.{WaiterId}
use Rattle.arena.specs.declared.Links.{Links}
use Rattle.arena.specs.declared.Arena.{Arena}
use Rattle.arena.specs.Lists.{NotIn, NoDup}
use Rattle.arena.specs.View.{at}
use Rattle.arena.proofs.Kept as arena
use Rattle.arena.proofs.Kept.{NoDup-prop}
use Rattle.arena.proofs.Laws.{found_small}
use Rattle.arena.proofs.Lists.{pigeons}
use Rattle.waitlist.specs.declared.WaitList.{WaitList}
use Rattle.waitlist.specs.View.{waiter_id, links_in, walk, first_of, last_of}
use Rattle.waitlist.specs.Sound.{Seg, SoundBy, Sound}
use Rattle.waitlist.proofs.Segs.{linked_found, seg_linked, seg_walk}

-- ---- of each fact there is one proof at most
Seg-prop : (links : ℕ → Option Links) (p : Option WaiterId) (l : List ℕ) (n : Option WaiterId) → IsProp (Seg links p l n)
Seg-prop links p [] n = Unit-prop
Seg-prop links p (i ∷ l) n = ×_prop (hlevel props) (Seg-prop links (Some (waiter_id i)) l n)

module _ (h t : Option WaiterId) (a : Arena) where
  abbrev walked : List ℕ
  walked = walk 32 (links_in a) h

  -- ---- the line is the list that the links lead through
  pub walk_is : (s : SoundBy h t a) → walked ≡ s.order
  walk_is s =
      ap (λ (h : Option WaiterId). walk 32 (links_in a) h) s.head
      ∙ seg_walk (links_in a) 32 s.order None (pigeons 32 s.order s.once small) s.linked
    where
      small : (k : ℕ) → Memᴰ k s.order → k < 32
      small k m =
          let l = seg_linked (links_in a) s.order None None k m s.linked in
          let f = linked_found (at a k) l.0 l.1 in
          found_small a k f.0 f.1

  pub sound_by : ∥ SoundBy h t a ∥₁ → SoundBy h t a
  sound_by kept =
      record {
        nodes = arena.sound_of a;
        order = walked;
        once = ∥∥₁_elim kept (NoDup-prop walked) (λ s. subst NoDup (sym (walk_is s)) s.once);
        linked =
            ∥∥₁_elim kept (Seg-prop (links_in a) None walked None)
            (λ s. subst (λ (l : List ℕ). Seg (links_in a) None l None) (sym (walk_is s)) s.linked);
        apart = λ k n. ∥∥₁_elim kept (hlevel props) (λ s. s.apart k (subst (NotIn k) (walk_is s) n));
        head = ∥∥₁_elim kept (hlevel props) (λ s. s.head ∙ ap (λ (l : List ℕ). first_of l None) (sym (walk_is s)));
        tail = ∥∥₁_elim kept (hlevel props) (λ s. s.tail ∙ ap (λ (l : List ℕ). last_of l None) (sym (walk_is s)));
      }

-- every wait list is sound
pub sound_of : (w : WaitList) → Sound w
sound_of w = sound_by w.head w.tail w.nodes w.sound
