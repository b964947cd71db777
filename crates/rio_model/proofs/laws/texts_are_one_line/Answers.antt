use Rattle.rio_model.specs.{ClassText.{text_of_class}, ValueText.{text_of_value}}
use Rattle.rio_model.proofs.{ClassLines.{class_line}, OneLineLaws.{line_is}, ValueLines.{value_line}}
use Rattle.rio_model.proofs.laws.texts_are_one_line.Goals as goal

pub returns-clause-values : goal.returns-clause-values
returns-clause-values c = λ v. line_is (text_of_value v) (value_line v)

pub returns-clause-classes : goal.returns-clause-classes
returns-clause-classes c = λ class. line_is (text_of_class class) (class_line class)
