-- Texts that are put one behind another.
use Rattle.std.proofs.Common.{◌≡◌, ℕ, ◌+◌, ◌-◌, length, take, drop, subst, List, [], ◌++◌, Option, Some, None, Result}
use Rattle.std.proofs.Common.{Ok, Err, refl, sym, ap, ◌∙◌, append_assoc}
use Rattle.std.specs.Prelude.{OnOk}
use Rattle.std.proofs.lemmas.List.{append-nil, take-append-drop, take_rest}
use Rattle.std.proofs.Math.Seq.{take-add}
use Rattle.std.specs.Io.KnownBytes.{Appends, Keeps}
use Rattle.lineage_cli.specs.Output.{Gains, AppendsFront, Puts, Moves, Shows}

-- known bytes stay as they are: nothing is put
pub appends_none : (before : Option (List ℕ)) → Appends before before []
appends_none None = tt
appends_none (Some xs) = sym (append-nil xs)

-- the same of bytes that were kept
pub appends_kept : (before now : Option (List ℕ)) → Keeps before now → Appends before now []
appends_kept None now kept = tt
appends_kept (Some xs) None kept = absurd kept
appends_kept (Some xs) (Some ys) kept = kept ∙ sym (append-nil xs)

-- one text, and then another
pub appends_then : (before mid now : Option (List ℕ)) (x y : List ℕ) → Appends before mid x → Appends mid now y → Appends before now (x ++ y)
appends_then None mid now x y p q = tt
appends_then (Some xs) None now x y p q = absurd p
appends_then (Some xs) (Some ys) None x y p q = absurd q
appends_then (Some xs) (Some ys) (Some zs) x y p q = q ∙ ap (λ (l : List ℕ). l ++ y) p ∙ append_assoc xs x y

-- ---- a part of a text

-- nothing of it
pub gains_none : (before : Option (List ℕ)) (text : List ℕ) → Gains before before text text
gains_none before text = record { part = []; gained = appends_none before; whole = refl }

-- all of it
pub gains_all : (before now : Option (List ℕ)) (text : List ℕ) → Appends before now text → Gains before now text []
gains_all before now text all = record { part = text; gained = all; whole = append-nil text }

-- a part of a text, and then one of what is left of it and a text after it
pub gains_then : (before mid now : Option (List ℕ)) (x y left rest : List ℕ) → Gains before mid x left → Gains mid now (left ++ y) rest → Gains before now (x ++ y) rest
gains_then before mid now x y left rest first then = record {
  part = first.part ++ then.part;
  gained = appends_then before mid now first.part then.part first.gained then.gained;
  whole = append_assoc first.part then.part rest ∙ (ap (λ (l : List ℕ). first.part ++ l) then.whole ∙ (sym (append_assoc first.part left y) ∙ ap (λ (l : List ℕ). l ++ y) first.whole));
}

-- a front of a text is one of a longer text
pub front_more : (before now : Option (List ℕ)) (x y : List ℕ) → AppendsFront before now x → AppendsFront before now (x ++ y)
front_more before now x y front =
    (front.0 ++ y, record { part = front.1.part; gained = front.1.gained; whole = sym (append_assoc front.1.part front.0 y) ∙ ap (λ (l : List ℕ). l ++ y) front.1.whole })

-- a part of a text, and then a front of what is left of it and a text after it
pub front_then : (before mid now : Option (List ℕ)) (x y left : List ℕ) → Gains before mid x left → AppendsFront mid now (left ++ y) → AppendsFront before now (x ++ y)
front_then before mid now x y left first front = (front.0, gains_then before mid now x y left front.0 first front.1)

-- a part of a text, and then what is left of it
pub puts_rest : {E : Type 0} (before mid now : Option (List ℕ)) (result : Result (Unit {0}) E) (text left : List ℕ) → Gains before mid text left → Puts mid now result left → Puts before now result text
puts_rest before mid now (Ok done) text left first then = subst (λ (l : List ℕ). Appends before now l) first.whole (appends_then before mid now first.part left first.gained then)
puts_rest before mid now (Err e) text left first front = (
  front.0,
  record {
    part = first.part ++ front.1.part;
    gained = appends_then before mid now first.part front.1.part first.gained front.1.gained;
    whole = append_assoc first.part front.1.part front.0 ∙ (ap (λ (l : List ℕ). first.part ++ l) front.1.whole ∙ first.whole);
  },
)

-- ---- writing a piece in several calls

-- a call that is refused leaves a front of the piece
pub stops_at : (before mid now : Option (List ℕ)) (at : ℕ) (piece : List ℕ) → Appends before mid (take at piece) → Keeps mid now → AppendsFront before now piece
stops_at before mid now at piece so_far kept = (
  drop at piece,
  record {
    part = take at piece;
    gained = subst (λ (text : List ℕ). Appends before now text) (append-nil (take at piece)) (appends_then before mid now (take at piece) [] so_far (appends_kept mid now kept));
    whole = take-append-drop at piece;
  },
)

-- a call that takes count bytes more
pub takes_more : (before mid now : Option (List ℕ)) (at count : ℕ) (piece : List ℕ) → Appends before mid (take at piece) → Appends mid now (take count (take (length piece - at) (drop at piece))) → Appends before now (take (at + count) piece)
takes_more before mid now at count piece so_far more =
    let whole : take (length piece - at) (drop at piece) ≡ drop at piece = take_rest piece at in
    subst (λ (text : List ℕ). Appends before now text) (sym (take-add at count piece)) (appends_then before mid now (take at piece) (take count (drop at piece)) so_far (subst (λ (rest : List ℕ). Appends mid now (take count rest)) whole more))

-- ---- a text behind one that waits in a buffer

-- what waited was written
pub flushed : {E : Type 0} (before now : Option (List ℕ)) (result : Result (Unit {0}) E) (waiting waits : List ℕ) → Puts before now result waiting → OnOk result (waits ≡ []) → Moves before now waits result waiting
flushed before now (Ok done) waiting waits put emptied = subst (λ (l : List ℕ). Gains before now waiting l) (sym emptied) (gains_all before now waiting put)
flushed before now (Err e) waiting waits put emptied = put

-- room was made for the piece, and it waits there
pub waits_there : (before mid : Option (List ℕ)) (waiting waits now piece : List ℕ) → Gains before mid waiting waits → now ≡ waits ++ piece → Gains before mid (waiting ++ piece) now
waits_there before mid waiting waits now piece made is = record {
  part = made.part;
  gained = made.gained;
  whole = ap (λ (l : List ℕ). made.part ++ l) is ∙ (sym (append_assoc made.part waits piece) ∙ ap (λ (l : List ℕ). l ++ piece) made.whole);
}

-- ---- texts put one behind another through the buffer

-- one text, and then another
pub shows_then : {E : Type 0} (before mid now : Option (List ℕ)) (w v u : List ℕ) (result : Result (Unit {0}) E) (x y : List ℕ) → Gains before mid (w ++ x) v → Shows mid v now u result y → Shows before w now u result (x ++ y)
shows_then before mid now w v u (Ok done) x y first then = subst (λ (l : List ℕ). Gains before now l u) (append_assoc w x y) (gains_then before mid now (w ++ x) y v u first then)
shows_then before mid now w v u (Err e) x y first front = subst (λ (l : List ℕ). AppendsFront before now l) (append_assoc w x y) (front_then before mid now (w ++ x) y v first front)

-- a front of the first text
pub shows_front : (before now : Option (List ℕ)) (w x y : List ℕ) → AppendsFront before now (w ++ x) → AppendsFront before now (w ++ (x ++ y))
shows_front before now w x y front = subst (λ (l : List ℕ). AppendsFront before now l) (append_assoc w x y) (front_more before now (w ++ x) y front)

-- one text, and then a front of another
pub shows_stop : (before mid now : Option (List ℕ)) (w v x y : List ℕ) → Gains before mid (w ++ x) v → AppendsFront mid now (v ++ y) → AppendsFront before now (w ++ (x ++ y))
shows_stop before mid now w v x y first front = subst (λ (l : List ℕ). AppendsFront before now l) (append_assoc w x y) (front_then before mid now (w ++ x) y v first front)

-- nothing more
pub shows_none : (written : Option (List ℕ)) (waits : List ℕ) → Gains written written (waits ++ []) waits
shows_none written waits = record { part = []; gained = appends_none written; whole = sym (append-nil waits) }
