-- Reader names and what they come to, by computation (01, "Reader names"; 000's names). Assumes nothing.
use Rattle.std.specs.Prelude.{◌≡◌, refl, List, [], ◌∷◌, ℕ}
use Prim.Native.String.{String}
use Rattle.layout.specs.Text.{ascii}
use Rattle.layout.specs.Target.{Target, fixed, char, string, object, texture, texture_2d, sprite_font, page, enum, nullable, array, list, dictionary, kind_of, is_value}
use Rattle.layout.specs.Name.{head_byte, tail_byte, long, long_tail}
use Rattle.layout.specs.Kind.{lookup, alike, reader, readers, target as target_entry, targets}
use Rattle.layout.specs.Fixed.{sizes}
use Rattle.layout.specs.Named.{Typed, unknown, known, fixed_kind, meshed, plain, nullable_of, wrapped, paired, listed_enum, type_of, size_or_four, enum_of, array_of, reader_of}
use Rattle.layout.specs.EnumList.{size_in}
use Rattle.layout.specs.Complaint.{is_known, unless, type_faults, reader_faults, leftmost}
use Rattle.names.specs.Parse.{Read, broken, name, span, starts, common, tail_size, tail_of, wrong_by, wrong, behind, closed, opening, unopened_number, unopened_at, on_only, on_second, on_first, after_head, headed, name_in, whole, name_of}
use Rattle.names.specs.Heading.{headings}
use Rattle.names.specs.Kind.{listed}

-- refused with a number and a place, or the reader's target
pub data Outcome : Type 0 where
  refused : (number place : ℕ) → Outcome
  target : Target → Outcome

abbrev pub typed : List ℕ → Typed → Outcome
typed faults unknown = refused 11 (leftmost faults)
typed faults (known t) = target t

abbrev pub outcome : Read → Outcome
outcome (broken number place hs) = refused number place
outcome (name n k) = typed (reader_faults [] 0 n) (reader_of [] n)

abbrev pub outcomes : List String → List Outcome
outcomes [] = []
outcomes (s ∷ ss) = outcome (name_of 0 (ascii s)) ∷ outcomes ss

unfoldable pub names : List String
names =
    "Microsoft.Xna.Framework.Content.StringReader"
    ∷ "Microsoft.Xna.Framework.Content.Texture2DReader, Microsoft.Xna.Framework.Graphics, Version=4.0.0.0, Culture=neutral, PublicKeyToken=842cf8be1de50553"
    ∷ "Microsoft.Xna.Framework.Content.SpriteFontReader,"
    ∷ "Coach.Console.PageReader"
    ∷ "Microsoft.Xna.Framework.Content.ListReader`1[[Microsoft.Xna.Framework.Rectangle, a, b]]"
    ∷ "Microsoft.Xna.Framework.Content.NullableReader`1[[System.Char]], c"
    ∷ "Microsoft.Xna.Framework.Content.ArrayReader`1[[System.Collections.Generic.List`1[[Microsoft.Xna.Framework.Graphics.Texture]]]]"
    ∷ "Microsoft.Xna.Framework.Content.DictionaryReader`2[[System.String],[System.Collections.Generic.Dictionary`2[[System.Int32, m],[System.Object]], m]]"
    ∷ "Microsoft.Xna.Framework.Content.EnumReader`1[[My.Game+Color, my]]"
    ∷ ""
    ∷ "Microsoft.Xna.Framework.Content.ListReader`1"
    ∷ "Microsoft.Xna.Framework.Content.ListReader`3[[System.Char]]"
    ∷ "Microsoft.Xna.Framework.Content.ListReader`2[[System.Char]]"
    ∷ "Microsoft.Xna.Framework.Content.ListReader`1[[System.Char],[System.Char]]"
    ∷ "Microsoft.Xna.Framework.Content.ListReader`1[[System.Char,[]]]"
    ∷ "Microsoft.Xna.Framework.Content.ListReader`1[[]]"
    ∷ "Microsoft.Xna.Framework.Content.StringReader]"
    ∷ "Nobody.Knows`1[[a]"
    ∷ "Microsoft.Xna.Framework.Content.stringReader"
    ∷ "Microsoft.Xna.Framework.Content.StringReader`1[[System.Char]]"
    ∷ "Microsoft.Xna.Framework.Content.ListReader"
    ∷ "Microsoft.Xna.Framework.Content.ListReader`1[[System.Char[]]]"
    ∷ "Microsoft.Xna.Framework.Content.ListReader`1[[My.Game+Color]]"
    ∷ "Microsoft.Xna.Framework.Content.NullableReader`1[[System.Nullable`1[[System.Char]]]]"
    ∷ "Microsoft.Xna.Framework.Content.NullableReader`1[[System.String]]"
    ∷ "Microsoft.Xna.Framework.Content.ListReader`1[[System.Nullable`1[[System.Object]]]]"
    ∷ "Microsoft.Xna.Framework.Content.EnumReader`1[[System.Collections.Generic.List]]"
    ∷ "Microsoft.Xna.Framework.Content.EnumReader`1[[My.Game`1[[System.Char]]]]"
    ∷ "Microsoft.Xna.Framework.Content.ListReader`1[[System.Collections.Generic.List`1[[System.Collections.Generic.List`1[[System.Collections.Generic.List`1[[System.Collections.Generic.List`1[[System.Collections.Generic.List`1[[System.Collections.Generic.List`1[[System.Char]]]]]]]]]]]]]]"
    ∷ "Microsoft.Xna.Framework.Content.ListReader`1[[System.Collections.Generic.List`1[[System.Collections.Generic.List`1[[System.Collections.Generic.List`1[[System.Collections.Generic.List`1[[System.Collections.Generic.List`1[[System.Collections.Generic.List`1[[System.Collections.Generic.List`1[[System.Char]]]]]]]]]]]]]]]]"
    ∷ []

-- each name above comes to what stands in its place here
pub examples : outcomes names ≡
    target string
    ∷ target texture_2d
    ∷ target sprite_font
    ∷ target page
    ∷ target (list (fixed 30))
    ∷ target (nullable char)
    ∷ target (array (list texture))
    ∷ target (dictionary string (dictionary (fixed 5) object))
    ∷ target (enum (ascii "My.Game+Color") 4)
    ∷ refused 33 0
    ∷ refused 36 44
    ∷ refused 35 43
    ∷ refused 36 58
    ∷ refused 36 58
    ∷ refused 37 58
    ∷ refused 33 46
    ∷ refused 34 44
    ∷ refused 36 18
    ∷ refused 11 0
    ∷ refused 11 0
    ∷ refused 11 0
    ∷ refused 34 57
    ∷ refused 11 46
    ∷ refused 11 50
    ∷ refused 11 50
    ∷ refused 11 65
    ∷ refused 11 46
    ∷ refused 11 46
    ∷ target (list (list (list (list (list (list (list char)))))))
    ∷ refused 38 291
    ∷ []
unfolding names ascii name_of whole name_in headed after_head on_first on_second on_only closed behind wrong wrong_by common opening unopened_number unopened_at starts span head_byte tail_byte tail_of tail_size headings long long_tail is_known unless
    type_faults reader_faults leftmost reader_of type_of listed_enum size_in size_or_four enum_of array_of meshed plain fixed_kind sizes wrapped nullable_of paired is_value kind_of lookup alike listed readers reader targets target_entry
examples = refl
