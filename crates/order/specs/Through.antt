-- A system of bytes each of whose calls is calls of a loop: its histories are the loop's, and so are the theorems.
use Rattle.std.specs.Prelude.{ℕ, ◌+◌, ◌≡◌, List, [], ◌∷◌, ◌++◌, map}
use Rattle.order.specs.Line.{Line, Loop, idle, devices, Call, put, hop, take, local, drain, Event, run}
use Rattle.order.specs.History.{Turn, puts, turns, each, total}
use Rattle.order.specs.RightRound.{first, one_by_one}

pub record Rendering (L : Line) : Type 1 where
  -- the areas, the calls on them with their arguments, and what these answer
  pub Area : Type 0
  pub Op : Type 0
  pub Answer : Type 0
  pub op : Area → Op → Area × Answer
  -- the loops that an area can hold, and the area of each
  pub Good : Loop L → Type 0
  pub render : Loop L → Area
  -- the calls of the loop that a call on the area stands for: none, if it only reads, or refuses by its arguments alone
  pub calls : Op → List (Call L)
  -- what it answers, by the loop before it and what happened
  pub said : Op → Loop L → List (Event L) → Answer
  -- a loop that an area can hold is left so, and each call on the area is those of the loop
  pub keeps : (l : Loop L) (o : Op) → Good l → Good (run l (calls o)).0
  pub same : (l : Loop L) (o : Op) → Good l
      → op (render l) o ≡ (render (run l (calls o)).0, said o l (run l (calls o)).1)

-- P holds of every one
abbrev pub Every : {A : Type 0} → (A → Type 0) → List A → Type 0
Every P [] = Unit {0}
Every P (x ∷ xs) = P x × Every P xs

-- what a call puts is as P has it
abbrev pub FairCall : {L : Line} → (L.Frame → Type 0) → Call L → Type 0
FairCall P (put f) = P f
FairCall P (hop i) = Unit {0}
FairCall P take = Unit {0}
FairCall P (local i c) = Unit {0}
FairCall P (drain b) = Unit {0}

module _ {L : Line} (R : Rendering L) where
  open R use {Area, Op, Answer, op, Good, render, calls, said}

  -- one call on the area after the other: the area that they leave, and their answers
  abbrev pub history : Area → List Op → Area × List Answer
  history a [] = (a, [])
  history a (o ∷ os) = ((history (op a o).0 os).0, (op a o).1 ∷ (history (op a o).0 os).1)

  -- the calls of the loop that they stand for, and what these make them answer
  abbrev pub calls_of : List Op → List (Call L)
  calls_of [] = []
  calls_of (o ∷ os) = calls o ++ calls_of os

  abbrev pub answers_of : Loop L → List Op → List Answer
  answers_of l [] = []
  answers_of l (o ∷ os) = said o l (run l (calls o)).1 ∷ answers_of (run l (calls o)).0 os

  -- A history of the area is the loop's: in the area that it leaves, and in every answer.
  abbrev pub Through : Type 0
  Through = (l : Loop L) (os : List Op) → Good l
      → (history (render l) os ≡ (render (run l (calls_of os)).0, answers_of l os)) × Good (run l (calls_of os)).0

  -- So if a history leaves all links empty, then each frame right round before the next leaves the same area, byte for
  -- byte.
  abbrev pub SameArea : Type 0
  SameArea = (l : Loop L) (ss' : List L.State) (os ref : List Op) (es : List (Event L)) → Good l
      → run l (calls_of os) ≡ (idle ss', es) → calls_of ref ≡ one_by_one l (puts es) (first (devices l) (turns es))
      → (history (render l) ref).0 ≡ (history (render l) os).0

  -- ---- Right round, as calls on the area

  -- Each call of the loop can be made on the area, as `write` has it, if it puts no frame but a fair one; and a call on
  -- the area stands for no other calls.
  pub record Writing : Type 1 where
    pub Fair : L.Frame → Type 0
    pub write : Call L → Op
    pub writes : (c : Call L) → FairCall Fair c → calls (write c) ≡ c ∷ []
    pub fair : (o : Op) → Every (FairCall Fair) (calls o)

  -- Then each frame right round before the next can be made on the area, for any history of it.
  abbrev pub Written : Writing → Type 0
  Written W = (l : Loop L) (os : List Op) (ts : List (List (Turn L)))
      → let ref = one_by_one l (puts (run l (calls_of os)).1) ts in calls_of (map W.write ref) ≡ ref

  -- ---- What a caller reads off the answers

  -- each call with its answer
  abbrev pub read_each : {A : Type 0} → (Op → Answer → List A) → List Op → List Answer → List A
  read_each g [] rs = []
  read_each g (o ∷ os) [] = []
  read_each g (o ∷ os) (r ∷ rs) = g o r ++ read_each g os rs

  abbrev pub read_total : (Op → Answer → ℕ) → List Op → List Answer → ℕ
  read_total g [] rs = 0
  read_total g (o ∷ os) [] = 0
  read_total g (o ∷ os) (r ∷ rs) = g o r + read_total g os rs

  -- the answer of a call tells what happened in it
  abbrev pub Tells : {A : Type 0} → (Op → Answer → List A) → (Event L → List A) → Op → Type 0
  Tells g e o = (l : Loop L) → Good l → g o (said o l (run l (calls o)).1) ≡ each e (run l (calls o)).1

  -- If each answer tells what happened in its call, then all answers tell what happened in the history.
  abbrev pub ReadEach : Type 1
  ReadEach = (A : Type 0) (g : Op → Answer → List A) (e : Event L → List A) (os : List Op) → Every (Tells g e) os
      → (l : Loop L) → Good l → read_each g os (history (render l) os).1 ≡ each e (run l (calls_of os)).1

  abbrev pub ReadTotal : Type 0
  ReadTotal = (g : Op → Answer → ℕ) (e : Event L → ℕ)
      → ((l : Loop L) (o : Op) → Good l → g o (said o l (run l (calls o)).1) ≡ total e (run l (calls o)).1)
      → (l : Loop L) (os : List Op) → Good l
      → read_total g os (history (render l) os).1 ≡ total e (run l (calls_of os)).1
