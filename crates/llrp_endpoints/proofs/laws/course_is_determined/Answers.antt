use Rattle.llrp_endpoints.proofs.PlanCourses.{one_course, courses_go_on}
use Rattle.llrp_endpoints.proofs.laws.course_is_determined.Goals as goal

pub returns-clause-one_course : goal.returns-clause-one_course
returns-clause-one_course c = one_course

pub returns-clause-goes_on : goal.returns-clause-goes_on
returns-clause-goes_on c = courses_go_on
