-- The letters of type strings (01, Type strings; 000, section 3.1).
use Rattle.std.specs.Prelude.{cond, ℕ, eqb, Option, Some, None}
use Rattle.typestring.specs.declared.kind.ItemKind.{ItemKind}
use Rattle.typestring.specs.declared.kind.ItemKind.TheVariants.{Value, Rest, Struct, Array}
use Rattle.typestring.specs.declared.kind.Value.TheVariants.{Bool, Fixed, Packed, Text, Counted}

-- "Letters b C c S s L l i 6 E e U d D, t(...) and A(...)", by their ASCII codes
unfoldable pub kind_of : ℕ → Option ItemKind
kind_of c =
    cond (eqb c 98) (Some (Value Bool))  -- b
    (cond (eqb c 67) (Some (Value (Fixed 1)))  -- C
    (cond (eqb c 99) (Some (Value (Fixed 1)))  -- c
    (cond (eqb c 83) (Some (Value (Fixed 2)))  -- S
    (cond (eqb c 115) (Some (Value (Fixed 2)))  -- s
    (cond (eqb c 76) (Some (Value (Fixed 4)))  -- L
    (cond (eqb c 108) (Some (Value (Fixed 4)))  -- l
    (cond (eqb c 105) (Some (Value Packed))  -- i
    (cond (eqb c 54) (Some (Value (Fixed 16)))  -- 6
    (cond (eqb c 69) (Some (Value (Fixed 8)))  -- E
    (cond (eqb c 101) (Some (Value (Fixed 6)))  -- e
    (cond (eqb c 85) (Some (Value Text))  -- U
    (cond (eqb c 100) (Some (Value Counted))  -- d
    (cond (eqb c 68) (Some Rest)  -- D
    (cond (eqb c 116) (Some Struct)  -- t
    (cond (eqb c 65) (Some Array)  -- A
    None)))))))))))))))
