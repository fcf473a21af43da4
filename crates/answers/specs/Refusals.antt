-- The numbers of rules, as 01 and 02 give them, and refusals. Assumes nothing.
use Rattle.std.specs.Prelude.{ℕ}
use Rattle.answers.specs.declared.Refusal.{Refusal}
use Rattle.answers.specs.declared.Rule.{Rule}
use Rattle.answers.specs.declared.Rule.TheVariants.{PastEnd, NotXnb, Platform, FormatVersion, Compressed, Flags, FileLength, BrokenNumber, TooLarge, NameHead, ReaderVersion, NoReader, NotDeclared, BadValue, NoResource, ResourceType, TooDeep, NoRowLeft, LeftOver, OutputTooSmall, FontRule}
use Rattle.answers.specs.declared.Rule.TheVariants.{NoSuchRow, OtherKind, NoTableRoom, EnumEntry, EmptyHead, HeadByte, ArgumentDigit, ArgumentBrackets, TailByte, NestedTooDeep, NotWindows, NotShortest, UnusedReader, EqualReaders, RepeatedKey, NotPage, NoNextPage, MissingMark, ListTooShort}
use Rattle.answers.specs.declared.Rule.TheVariants.{NotTextArray, NullText, NotInXml, NotExported, FigureTooLarge, NoRowRoom}

-- a refusal of a number, at a place
abbrev pub refusal : (number place : ℕ) → Refusal
refusal number place = record { number = number; place = place }

-- the number of a rule
abbrev pub number_of : Rule → ℕ
number_of PastEnd = 1
number_of NotXnb = 2
number_of Platform = 3
number_of FormatVersion = 4
number_of Compressed = 5
number_of Flags = 6
number_of FileLength = 7
number_of BrokenNumber = 8
number_of TooLarge = 9
number_of NameHead = 11
number_of ReaderVersion = 12
number_of NoReader = 13
number_of NotDeclared = 14
number_of BadValue = 15
number_of NoResource = 16
number_of ResourceType = 17
number_of TooDeep = 18
number_of NoRowLeft = 19
number_of LeftOver = 20
number_of OutputTooSmall = 21
number_of FontRule = 22
number_of NoSuchRow = 23
number_of OtherKind = 24
number_of NoTableRoom = 31
number_of EnumEntry = 32
number_of EmptyHead = 33
number_of HeadByte = 34
number_of ArgumentDigit = 35
number_of ArgumentBrackets = 36
number_of TailByte = 37
number_of NestedTooDeep = 38
number_of NotWindows = 41
number_of NotShortest = 42
number_of UnusedReader = 43
number_of EqualReaders = 44
number_of RepeatedKey = 45
number_of NotPage = 46
number_of NoNextPage = 47
number_of MissingMark = 51
number_of ListTooShort = 52
number_of NotTextArray = 61
number_of NullText = 62
number_of NotInXml = 63
number_of NotExported = 64
number_of FigureTooLarge = 71
number_of NoRowRoom = 72
