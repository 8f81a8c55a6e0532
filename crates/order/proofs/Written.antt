-- The right-round history puts only frames that the history put, so calls on the area can put them too.
use Prim.Native.Nat.{ℕ, zero, suc}
use mathlib.Core.Path.{◌≡◌, refl}
use mathlib.Core.Option
use mathlib.Core.Option.{Option, none, some}
use mathlib.Core.List.{List, [], ◌∷◌, ◌++◌, map}
use lib.ListN.{length}
use Rattle.order.specs.Line.{Line, Loop, tail, cell, push, hop_at, take_out, call_at, reply, answer, run}
use Rattle.order.specs.Line.{Call, put, hop, take, local, drain, Event, was_put, hopped, was_taken, called}
use Rattle.order.specs.History.{Turn, put_by, puts}
use Rattle.order.specs.RightRound.{before, after, makes, past, finish, right_round, onward, left_after, clear}
use Rattle.order.specs.RightRound.{one_by_one}
use Rattle.order.specs.Through.{Rendering, calls_of, Every, FairCall, Writing, Written}
use Rattle.order.proofs.Drain.{drain_is_hops}
use Rattle.order.proofs.Through.{each_append}

every_append : {A : Type 0} (P : A → Type 0) (xs ys : List A) → Every P xs → Every P ys → Every P (xs ++ ys)
every_append P [] ys u v = v
every_append P (x ∷ xs) ys u v = (u.0, every_append P xs ys u.1 v)

module _ (L : Line) (P : L.Frame → Type 0) where
  open L use {Frame, Local}

  -- ---- The frames put were put by the calls

  reply_puts : {A : Type 0} (l : Loop L) (o : Option A) (g : A → Loop L × Event L)
      → ((a : A) → Every P (put_by (g a).1)) → Every P (puts (reply l (Option.map g o)).1)
  reply_puts l none g h = tt
  reply_puts l (some a) g h = every_append P (put_by (g a).1) [] (h a) tt

  then_puts : (es fs : List (Event L)) → Every P (puts es) → Every P (puts fs) → Every P (puts (es ++ fs))
  then_puts es fs u v = rw (each_append (λ e. put_by e) es fs) (every_append P (puts es) (puts fs) u v)

  hop_puts : (l : Loop L) (i : ℕ) → Every P (puts (answer l (hop i)).1)
  hop_puts l i = reply_puts l (hop_at l i) (λ p. (p.0, hopped i p.1)) (λ p. tt)

  hops_puts : (l : Loop L) (is : List ℕ) → Every P (puts (run l (map hop is)).1)
  hops_puts l [] = tt
  hops_puts l (i ∷ is) = then_puts (answer l (hop i)).1 _ (hop_puts l i) (hops_puts (answer l (hop i)).0 is)

  answer_puts : (l : Loop L) (c : Call L) → FairCall P c → Every P (puts (answer l c).1)
  answer_puts l (put f) u = reply_puts l (push l f) (λ l'. (l', was_put f)) (λ l'. (u, tt))
  answer_puts l (hop i) u = hop_puts l i
  answer_puts l take u = reply_puts l (take_out l) (λ p. (p.0, was_taken p.1)) (λ p. tt)
  answer_puts l (local i c) u = reply_puts l (call_at l i c) (λ l'. (l', called i c)) (λ l'. tt)
  answer_puts l (drain b) u = let d = drain_is_hops L b l in rw d.1 at (hops_puts l d.0)

  pub run_puts : (l : Loop L) (cs : List (Call L)) → Every (FairCall P) cs → Every P (puts (run l cs).1)
  run_puts l [] u = tt
  run_puts l (c ∷ cs) u =
      then_puts (answer l c).1 _ (answer_puts l c u.0) (run_puts (answer l c).0 cs u.1)

  -- ---- And the right-round history puts those alone

  makes_fair : (i : ℕ) (cs : List Local) → Every (FairCall {L = L} P) (makes i cs)
  makes_fair i [] = tt
  makes_fair i (c ∷ cs) = (tt, makes_fair i cs)

  past_fair : (i : ℕ) (ts : List (List (Turn L))) → Every (FairCall P) (past i ts)
  past_fair i [] = tt
  past_fair i (t ∷ ts) =
      every_append (FairCall P) (makes i (before t)) _ (makes_fair i (before t)) (tt, past_fair (suc i) ts)

  finish_fair : (i : ℕ) (ts : List (List (Turn L))) → Every (FairCall P) (finish i ts)
  finish_fair i [] = tt
  finish_fair i (t ∷ ts) =
      every_append (FairCall P) (makes i (before t)) _ (makes_fair i (before t)) (finish_fair (suc i) ts)

  onward_fair : (i n : ℕ) (ts : List (List (Turn L))) → Every (FairCall P) (onward i n ts)
  onward_fair i zero ts = tt
  onward_fair i (suc n) ts =
      every_append (FairCall P) (past i ts) _ (past_fair i ts) (tt, onward_fair i n (map after ts))

  clear_fair : (i : ℕ) (l : Loop L) (ts : List (List (Turn L))) → Every (FairCall P) (clear i l ts)
  clear_fair i (tail q) ts = onward_fair i (length q) []
  clear_fair i (cell q s r) [] = tt
  clear_fair i (cell q s r) (t ∷ ts) = every_append (FairCall P) (clear (suc i) r ts) _
      (clear_fair (suc i) r ts) (onward_fair i (length q) (t ∷ left_after r ts))

  round_fair : (fs : List Frame) (ts : List (List (Turn L))) → Every P fs → Every (FairCall P) (right_round fs ts)
  round_fair [] ts u = finish_fair 0 ts
  round_fair (f ∷ fs) ts u =
      (u.0, every_append (FairCall P) (past 0 ts) _ (past_fair 0 ts) (tt, round_fair fs (map after ts) u.1))

  pub one_by_one_fair : (l : Loop L) (fs : List Frame) (ts : List (List (Turn L))) → Every P fs →
      Every (FairCall P) (one_by_one l fs ts)
  one_by_one_fair l fs ts u =
      every_append (FairCall P) (clear 0 l ts) _ (clear_fair 0 l ts) (round_fair fs (left_after l ts) u)

module _ {L : Line} (R : Rendering L) (W : Writing R) where
  open R use {Op, calls}
  open W use {Fair, write, writes, fair}

  pub calls_fair : (os : List Op) → Every (FairCall Fair) (calls_of R os)
  calls_fair [] = tt
  calls_fair (o ∷ os) = every_append (FairCall Fair) (calls o) (calls_of R os) (fair o) (calls_fair os)

  pub writes_all : (cs : List (Call L)) → Every (FairCall Fair) cs → calls_of R (map write cs) ≡ cs
  writes_all [] u = refl
  writes_all (c ∷ cs) u = rw (writes c u.0, writes_all cs u.1)

  pub written : Written R W
  written l os ts = writes_all (one_by_one l fs ts) (one_by_one_fair L Fair l fs ts fair_puts)
    where
      fs : List L.Frame
      fs = puts (run l (calls_of R os)).1

      fair_puts : Every Fair fs
      fair_puts = run_puts L Fair l (calls_of R os) (calls_fair os)
