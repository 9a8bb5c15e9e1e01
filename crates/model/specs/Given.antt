-- WHICH KIND OF DEAD: a call with a number that is not live answers 26 if that number was given earlier in this history, in its kind, and 21
-- if none gave it. proofs/Theorems.antt proves this for any beginning and any calls. Nothing is assumed.
use Rattle.std.specs.Prelude.{◌≡◌, Bool, false, not, ◌&&◌, ◌||◌, List, [], ◌∷◌, ◌++◌, ℕ, eqb, if◌then◌else◌}
use Rattle.std.specs.Prelude.{Option, None, Some}
use Rattle.model.specs.Queue.{Ans, DONE, GIVEN, NO_HANDLE, CLOSED}
use Rattle.model.specs.Calls.{Begin, begin, step, answers, after, among}
use Rattle.model.specs.Calls.{Call, CloneS, CloneR, TrySend, TryRes, Reserve, Send, Recv, PollOut, CancelOut}
use Rattle.model.specs.Calls.{PermitSend, PermitDrop, TryRecv, PollIn, CancelIn, DropS, DropR, Status}
use Rattle.model.specs.Turns.{Kind, sender, receiver, outgoing, incoming, permit, Handle, named, is_live}

-- the kind of record whose number a call gives, if it answers 2
abbrev pub gives : Call → Option Kind
gives (CloneS s) = Some sender
gives (CloneR r) = Some receiver
gives (TrySend s v) = None
gives (TryRes s) = Some permit
gives (Reserve s) = Some outgoing
gives (Send s v) = Some outgoing
gives (Recv r) = Some incoming
gives (PollOut n t) = Some permit
gives (CancelOut n) = None
gives (PermitSend p v) = None
gives (PermitDrop p) = None
gives (TryRecv r) = None
gives (PollIn n t) = None
gives (CancelIn n) = None
gives (DropS s) = None
gives (DropR r) = None
gives Status = None

-- is it the kind k
abbrev pub ordinal : Kind → ℕ
ordinal sender = 0
ordinal receiver = 1
ordinal outgoing = 2
ordinal incoming = 3
ordinal permit = 4

abbrev pub is_kind : Kind → Option Kind → Bool
is_kind k None = false
is_kind k (Some j) = eqb (ordinal k) (ordinal j)

-- the numbers of the kind k that a call gave, by what it answered: the field of a 2, if the call gives that kind
abbrev pub gave : Kind → Option Kind → Ans → List ℕ
gave k j a = if eqb a.code GIVEN && is_kind k j then a.field else []

-- those that make or make-u gave: sender 0 and receiver 0, if it was not refused
abbrev pub gave_first : Kind → Ans → List ℕ
gave_first k a = if eqb a.code DONE && (is_kind k (Some sender) || is_kind k (Some receiver)) then 0 ∷ [] else []

-- those that calls gave, by the calls and their answers; and all of a history
abbrev pub given_by : Kind → List Call → List Ans → List ℕ
given_by k [] l = []
given_by k (c ∷ cs) [] = []
given_by k (c ∷ cs) (a ∷ l) = gave k (gives c) a ++ given_by k cs l

abbrev pub given : Kind → Begin → List Call → List ℕ
given k b cs = gave_first k (begin b).ans ++ given_by k cs (answers cs (begin b).next)

-- was x given in a history that b began, by make or by one of the calls cs
abbrev pub was_given : Handle → Begin → List Call → Bool
was_given x b cs = among x.number (given x.kind b cs)

-- EXACTLY SO: a call that names x, after b and cs, answers 26 if and only if x was given and is not live, and 21 if and only if x was not given
pub record WhichDead (b : Begin) (cs : List Call) (c : Call) (x : Handle) : Type 0 where
  pub closed : eqb (step c (after cs (begin b).next)).ans.code CLOSED ≡ (was_given x b cs && not (is_live x (after cs (begin b).next)))
  pub never_given : eqb (step c (after cs (begin b).next)).ans.code NO_HANDLE ≡ not (was_given x b cs)

abbrev pub SaysWhichDead : Begin → List Call → Type 0
SaysWhichDead b cs = (c : Call) (x : Handle) → named c ≡ Some x → WhichDead b cs c x
