pub mod RuledOut
