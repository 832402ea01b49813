-- The facts of specs/Facts.antt, proved. Assumes nothing.
use mathlib.Core.Path.{◌≡◌, refl, sym, ap}
use mathlib.Core.Bool.{Bool, true, false}
use Prim.Native.Nat.{zero, suc}
use lib.Dec.{eqb}
use borrow.Author.Tests.{eqb-true, ne_eqb}
use Rattle.c_structs.specs.Leduc.{card_unless, byte_of}
use Rattle.c_structs.specs.Facts.{ByteBack, HiddenBack, CardBack, Card255Lost, KuhnBack, LeducBack, KuhnRefusedBack, LeducRefusedBack}

pub byte_back : ByteBack
byte_back b = go (eqb b 255) refl
  where
    go : (t : Bool) → eqb b 255 ≡ t → byte_of (card_unless t b) ≡ b
    go true q = sym (eqb-true b 255 q)
    go false q = refl

pub hidden_back : HiddenBack
hidden_back = refl

pub card_back : CardBack
card_back c n = rw (ne_eqb c 255 n)

pub card_255_lost : Card255Lost
card_255_lost = refl

pub kuhn_back : KuhnBack
kuhn_back p = refl

pub leduc_back : LeducBack
leduc_back p = ap (λ b. record { cards = p.cards; dealt = p.dealt; public = b; history = p.history; acted1 = p.acted1; acted2 = p.acted2 }) (byte_back p.public)

pub kuhn-refused_back : KuhnRefusedBack
kuhn-refused_back zero p next n = absurd (n refl)
kuhn-refused_back (suc k) p next n = refl

pub leduc-refused_back : LeducRefusedBack
leduc-refused_back zero p next n = absurd (n refl)
leduc-refused_back (suc k) p next n = leduc_back p
