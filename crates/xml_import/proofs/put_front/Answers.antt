use Rattle.layout.specs.Number.{little}
use Rattle.layout.specs.Text.{ascii}
use Rattle.layout.specs.Shortest.{shortest, fewest, short_lists, short_entries, short_entry}
use Rattle.xml_layout.specs.Tree.{array_name, string_name}
use Rattle.xml_import.specs.Puts.{front_put, header_bytes, lists_bytes}
use Rattle.xml_import.proofs.put_front.Goals as goal

pub returns : goal.returns
unfolding front_put header_bytes lists_bytes short_lists short_entries short_entry array_name string_name shortest fewest little ascii
returns c = rw (c.put4-2.ensures, c.copy-2.ensures.out_after, c.put4.ensures, c.copy.ensures.out_after)
